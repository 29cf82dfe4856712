-- ## Programs read, by hand
mod Examples
-- ## Words, their kinds and how tokens spell them
pub mod KindLaws
pub mod Spelling
pub mod Rows
-- ## Complete: what is written so is read
pub mod CompleteSteps
pub mod CompleteKinds
pub mod CompleteLists
pub mod CompleteExpressions
pub mod CompleteEffects
pub mod CompleteDeclarations
pub mod CompleteBegins
pub mod CompleteBlocks
pub mod CompleteStatements
pub mod CompletePrograms
-- ## Near: a reader looks at no token behind the one where it stops
pub mod NearSteps
pub mod NearExpressions
pub mod NearDeclarations
pub mod NearHeads
pub mod NearParams
pub mod NearEffects
pub mod NearStatements
-- ## Sound: what is read is written so
pub mod SoundSteps
pub mod SoundLists
pub mod SoundOperands
pub mod SoundExpressions
pub mod SoundEffects
pub mod SoundDeclarations
pub mod SoundBlocks
pub mod SoundFors
pub mod SoundStatements
pub mod SoundPrograms
-- ## Viable: the tokens before a fault begin what is read
pub mod ViableSteps
pub mod ViableLists
pub mod ViableOperands
pub mod ViableExpressions
pub mod ViableEffects
pub mod ViableDeclarations
pub mod ViableBlocks
pub mod ViableFors
pub mod ViableStatements
pub mod ViablePrograms
-- ## Both in one: what is read is written so, and the tokens before a fault begin what is read
pub mod MeetSteps
pub mod MeetHeads
pub mod MeetParams
pub mod MeetFunctions
-- ## The laws of the reader of programs
pub mod ProgramLaws
