-- ## Containers: which marks stand where
pub mod Getting
pub mod Apart
pub mod Located
pub mod Columns
pub mod ColumnLaws
pub mod Buried
pub mod OneChange
pub mod TwoChanges
pub mod WithEnd
-- ## What making, ending, writing and changes do to a memory
pub mod After
pub mod AfterTwo
pub mod Moved
pub mod InvalidatedPlaces
pub mod Making
pub mod Writing
pub mod Ending
-- ## Which changes are fair
pub mod Places
pub mod Counts
pub mod FairChanges
pub mod FairRearrangements
pub mod AfterEdit
pub mod Exchanged
pub mod KeyCounts
pub mod FineEffects
-- ## Each row and each library: memory stays sound, and no mark vanishes
pub mod Keeps
pub mod KeepsRun
pub mod KeepsCalls
-- ## What each row gives
pub mod Called
pub mod Growing
pub mod Placing
pub mod Tells
pub mod ContainersTell
pub mod AlgorithmsTell
pub mod OutputsTell
pub mod AlgorithmRowsTell
-- ## Each row is fine: its effect leaves a sound memory sound, and no mark vanishes
pub mod FineRows
pub mod OperandForms
pub mod FineContainers
pub mod TableRows
pub mod FineAlgorithms
pub mod LibrarySound
-- ## Each row leaves keys in order
pub mod TidyContainers
pub mod TidyAlgorithms
pub mod LibraryOrderly
pub mod RunSound
-- ## Keys stay in order
pub mod Pairs
pub mod AsInts
pub mod Ascending
pub mod KeysAfter
pub mod KeyInOrder
pub mod OrderlyEffects
pub mod TidyRows
pub mod RunOrderly
-- ## Scoped texts: each state of a run is good
pub mod Locations
pub mod Levels
pub mod Gifts
pub mod GoodEval
pub mod GoodFlow
pub mod GoodEffects
pub mod GoodRange
pub mod GoodExec
pub mod GoodBinding
pub mod GoodCalls
pub mod LibraryGood
pub mod RunGood
-- ## A run with more steps
pub mod Longer
pub mod LongerExec
pub mod LongerCalls
-- ## A run over a library that lacks calls
pub mod Lacking
pub mod LackingExec
pub mod LackingCalls
pub mod SmallRuns
-- ## Well typed texts: what is in them, and what their parts are
pub mod Passing
pub mod TypedNumbers
pub mod TypedOperands
pub mod TypedCalls
pub mod TypedParts
pub mod TypedExpressions
pub mod TypedStatements
pub mod TypedVariables
pub mod TypedUses
-- ## Well typed texts: what is given fits its type, so each call has a meaning
pub mod Fitting
pub mod FormsAfter
pub mod FormsEffects
pub mod FormsRows
pub mod LibraryForms
pub mod SortsFit
pub mod OperatorSorts
pub mod TypedRows
pub mod TableLetters
pub mod RowIsThere
pub mod RowMeant
pub mod GivenIn
pub mod ContainersGiveIn
pub mod AlgorithmsGiveIn
pub mod LibraryGives
pub mod AnswersFit
pub mod MembersFit
pub mod AlgorithmsFit
-- ## A well typed text is scoped
pub mod ScopedRows
pub mod ScopedCalls
pub mod ScopedGifts
pub mod ScopedExpressions
pub mod ScopedScopes
pub mod ScopedStatements
pub mod ScopedTexts
pub mod OperatorsFit
pub mod MovingFirst
pub mod CallsFit
pub mod LibraryFits
-- ## A well typed text never ends for want of a meaning
pub mod StackTypes
pub mod StackScopes
pub mod FitOuts
pub mod FitMoves
pub mod FitEval
pub mod FitFlow
pub mod FitDeclared
pub mod FitEffects
pub mod FitRange
pub mod FitExec
pub mod FitCalls
pub mod FitRun
-- ## Facts where no way comes
pub mod FactsIdle
pub mod EffectsIdle
pub mod CarryIdle
-- ## The end of a run, as the code has it
pub mod EndViews
-- ## Lists of numbers: words, parts between blanks, and laws
pub mod ListWords
pub mod ListParts
pub mod ListLaws
-- ## Worked examples
pub mod Examples
