-- Facts of a place of a text, and what a set of facts gives. An outline lists facts at the heads of loops and at the entries and
-- exits of functions; the fact rules carry them through the text.
--
-- Restates no section of ISO/IEC 14882:2017: facts are this project's own.
-- Chosen here: which facts there are. Variables are the numbers of their sorts, references are numbered among the iterators, and
-- what an operand gives is the next number behind those in scope. A number that is no constant of the text is never a fact's: what
-- a rule would give with it, it gives with each weaker constant.
use Rattle.std.specs.Prelude.{ℕ, zero, suc, ◌==◌, Bool, true, false, not, ◌&&◌, ◌||◌, List, [], ◌∷◌, find, reverse, ℤ, pos, int_le}
use Rattle.std.specs.Prelude.{Some, None, if◌then◌else◌}

-- a fact of variables; an iterator or a reference comes first, then a container or a scalar, then a number
pub data Fact : Type 0 where
  -- the iterator is valid and in the container
  inside : ℕ → ℕ → Fact
  -- and it isn't the end
  before : ℕ → ℕ → Fact
  -- it is inside, and it isn't the beginning
  behind : ℕ → ℕ → Fact
  -- the container has so many elements at least
  size_at_least : ℕ → ℤ → Fact
  -- the vector has room for so many elements more at least
  spare_at_least : ℕ → ℤ → Fact
  -- the container's elements ascend
  sorted : ℕ → Fact
  -- the number is at most the scalar
  lower_bound : ℕ → ℤ → Fact
  -- the scalar is at most the number
  upper_bound : ℕ → ℤ → Fact
  -- the scalar is at most the container's size
  up_to_size : ℕ → ℕ → Fact
  -- the scalar is less than the container's size
  below_size : ℕ → ℕ → Fact
  -- the reference is valid and to an element of the container
  alive : ℕ → ℕ → Fact

-- which facts are given
abbrev pub Facts : Type 0
Facts = Fact → Bool

-- what follows from a fact: it, and the weaker ones
abbrev pub follows : Fact → Facts
follows (inside i c) (inside j d) = i == j && c == d
follows (before i c) (before j d) = i == j && c == d
follows (before i c) (inside j d) = i == j && c == d
follows (before i c) (size_at_least d k) = c == d && int_le k (pos 1)
follows (behind i c) (behind j d) = i == j && c == d
follows (behind i c) (inside j d) = i == j && c == d
follows (behind i c) (size_at_least d k) = c == d && int_le k (pos 1)
follows (size_at_least c n) (size_at_least d k) = c == d && int_le k n
follows (spare_at_least c n) (spare_at_least d k) = c == d && int_le k n
follows (sorted c) (sorted d) = c == d
follows (lower_bound x a) (lower_bound y k) = x == y && int_le k a
follows (upper_bound x b) (upper_bound y k) = x == y && int_le b k
follows (up_to_size x c) (up_to_size y d) = x == y && c == d
follows (below_size x c) (below_size y d) = x == y && c == d
follows (below_size x c) (up_to_size y d) = x == y && c == d
follows (alive r c) (alive s d) = r == s && c == d
follows f g = false

-- what a list of facts gives
abbrev pub given_by : List Fact → Facts
given_by [] f = false
given_by (g ∷ l) f = follows g f || given_by l f

-- each fact of a list is given
abbrev pub each_given : Facts → List Fact → Bool
each_given F [] = true
each_given F (f ∷ l) = F f && each_given F l

-- one fact more is given, where a test holds
abbrev pub given_too : Bool → Fact → Facts → Facts
given_too test g F f = F f || (test && follows g f)

-- what two ways both give
abbrev pub common_facts : Facts → Facts → Facts
common_facts F G f = F f && G f

-- the facts of which a test holds are dropped
abbrev pub without : (Fact → Bool) → Facts → Facts
without test F f = not (test f) && F f

-- the fact speaks of this container
abbrev pub is_on_container : ℕ → Fact → Bool
is_on_container c (inside i d) = c == d
is_on_container c (before i d) = c == d
is_on_container c (behind i d) = c == d
is_on_container c (size_at_least d k) = c == d
is_on_container c (spare_at_least d k) = c == d
is_on_container c (sorted d) = c == d
is_on_container c (lower_bound x a) = false
is_on_container c (upper_bound x b) = false
is_on_container c (up_to_size x d) = c == d
is_on_container c (below_size x d) = c == d
is_on_container c (alive r d) = c == d

-- the test holds of a number below n
abbrev pub some_below : ℕ → (ℕ → Bool) → Bool
some_below zero test = false
some_below (suc n) test = test n || some_below n test

-- it is no container
abbrev pub no_container : ℕ → Bool
no_container c = false

-- The facts on an iterator are these: the containers it is inside of, before the end of and behind the beginning of. It refers to
-- nothing.
abbrev pub placed : ℕ → (ℕ → Bool) → (ℕ → Bool) → (ℕ → Bool) → Facts → Facts
placed it in_these before_these behind_these F (inside i d) = if i == it then in_these d else F (inside i d)
placed it in_these before_these behind_these F (before i d) = if i == it then before_these d else F (before i d)
placed it in_these before_these behind_these F (behind i d) = if i == it then behind_these d else F (behind i d)
placed it in_these before_these behind_these F (alive i d) = if i == it then false else F (alive i d)
placed it in_these before_these behind_these F f = F f

-- The facts on a scalar are these: its bounds from below and from above, and the containers whose size it is at most and less than.
abbrev pub scaled : ℕ → (ℤ → Bool) → (ℤ → Bool) → (ℕ → Bool) → (ℕ → Bool) → Facts → Facts
scaled x lower upper up_to_these below_these F (lower_bound y k) = if y == x then lower k else F (lower_bound y k)
scaled x lower upper up_to_these below_these F (upper_bound y k) = if y == x then upper k else F (upper_bound y k)
scaled x lower upper up_to_these below_these F (up_to_size y d) = if y == x then up_to_these d else F (up_to_size y d)
scaled x lower upper up_to_these below_these F (below_size y d) = if y == x then below_these d else F (below_size y d)
scaled x lower upper up_to_these below_these F f = F f

-- it is no number
abbrev pub no_number : ℤ → Bool
no_number k = false

-- nothing is given on an iterator or a reference
abbrev pub forget_iterator : ℕ → Facts → Facts
forget_iterator it F = placed it no_container no_container no_container F

-- nothing is given on a scalar
abbrev pub forget_scalar : ℕ → Facts → Facts
forget_scalar x F = scaled x no_number no_number no_container no_container F

-- `copy_variable`, `it = jt`: an iterator has the facts of another
abbrev pub copy_iterator : ℕ → ℕ → Facts → Facts
copy_iterator it from F = placed it (λ d. F (inside from d)) (λ d. F (before from d)) (λ d. F (behind from d)) F

-- `copy_variable`, `x = y` of one type: a scalar has the facts of another
abbrev pub copy_scalar : ℕ → ℕ → Facts → Facts
copy_scalar x from F =
    scaled x (λ k. F (lower_bound from k)) (λ k. F (upper_bound from k)) (λ d. F (up_to_size from d)) (λ d. F (below_size from d)) F

-- a scalar has the bounds of another, and no fact with a size
abbrev pub copy_bounds : ℕ → ℕ → Facts → Facts
copy_bounds x from F = scaled x (λ k. F (lower_bound from k)) (λ k. F (upper_bound from k)) no_container no_container F

-- The test holds of the least of the constants, which ascend, that is at least k. A lower bound, of a size too, that a rule gives
-- with a number that is no constant, it gives with each constant below; so it gives k where it would give this one.
abbrev pub at_least_constant : List ℤ → ℤ → (ℤ → Bool) → Bool
at_least_constant constants k test = elim (find (λ m. int_le k m) constants) [ None ↦ false | Some m ↦ test m ]

-- the same from above: the test holds of the greatest constant that is at most k
abbrev pub at_most_constant : List ℤ → ℤ → (ℤ → Bool) → Bool
at_most_constant constants k test = elim (find (λ m. int_le m k) (reverse constants)) [ None ↦ false | Some m ↦ test m ]

-- the greater of two numbers
abbrev pub greater : ℤ → ℤ → ℤ
greater a b = if int_le a b then b else a

-- the smaller of two numbers
abbrev pub smaller : ℤ → ℤ → ℤ
smaller a b = if int_le a b then a else b
