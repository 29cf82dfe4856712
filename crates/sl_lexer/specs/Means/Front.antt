-- What begins a rest of the text, as a function of its bytes: the kind and the length of the longest piece, or the rule that is broken
-- and how far from the front. A means of the proof alone: proofs/FrontLaws ties it to the pieces and the rules of sl_base.
use Rattle.std.specs.Prelude.{ℕ, zero, suc, ◌+◌, ◌==◌, ◌||◌, ◌&&◌, Bool, false, not, nat_lt, List, [], ◌∷◌, length, take, drop, codes, Option, Some}
use Rattle.std.specs.Prelude.{None, option_map, Result, Ok, Err, is_some, if◌then◌else◌}
use Rattle.std.specs.List.{prefix_len}
use Rattle.std.specs.Str.{bytes_eq}
use Rattle.sl_base.specs.declared.limits.TheConstants.{NAME_BYTES, LARGEST_NUMBER}
use Rattle.sl_base.specs.Bytes.{is_space, is_blank, is_letter, is_digit, is_name_byte, spoils_number, begins, begins_with, begins_joint}
use Rattle.sl_base.specs.Comments.{comment_end}
use Rattle.sl_base.specs.Directives.{closes_directive}
use Rattle.sl_base.specs.Headers.{is_header}
use Rattle.sl_base.specs.Marks.{mark_of}
use Rattle.sl_base.specs.Places.{is_line_feed}
use Rattle.sl_base.specs.Pieces.{PieceKind, blank_piece, comment_piece, directive_piece, name_piece, lib_piece, number_piece, text_piece, mark_piece}
use Rattle.sl_base.specs.Pieces.{std_colons, decimal, TokenRule, bad_byte, bad_number, open_comment, open_text, bad_directive}
use Rattle.sl_base.specs.Quoted.{escape_of, text_end, unescaped, between}
use Rattle.sl_lexer.specs.declared.byte.First.{First}
use Rattle.sl_lexer.specs.declared.byte.First.TheVariants.{Blank, Letter, Digit, Quote, Apostrophe, Hash, Other}

-- ## Classes of the first byte

abbrev pub other_of : ℕ → First
other_of b = if b == 34 then Quote else if b == 39 then Apostrophe else if b == 35 then Hash else Other

abbrev pub first_of : ℕ → First
first_of b = if is_blank b then Blank else if is_letter b then Letter else if is_digit b then Digit else other_of b

abbrev pub first_at : List ℕ → First
first_at [] = Other
first_at (b ∷ bs) = first_of b

-- the rule that is broken where a byte of this class begins no piece
abbrev pub rule_for : First → TokenRule
rule_for Quote = open_text
rule_for Apostrophe = open_text
rule_for Hash = bad_directive
rule_for _ = bad_byte

-- ## How many bytes the longest piece has

abbrev pub begins_lib : List ℕ → Bool
begins_lib rest = bytes_eq (take 5 rest) std_colons && begins is_letter (drop 5 rest)

-- after `0` no digit follows
abbrev pub number_len : List ℕ → ℕ
number_len rest = if begins (λ b. b == 48) rest then 1 else prefix_len is_digit rest

abbrev pub text_len : List ℕ → Option ℕ
text_len rest = option_map (λ n. n + 1) (text_end false (drop 1 rest))

-- the one byte or escape between single quotes
abbrev pub one_len : List ℕ → Option ℕ
one_len [] = None
one_len (b ∷ bs) =
    if b == 92 then (if begins (λ c. is_some (escape_of c)) bs then Some 2 else None)
    else if (b == 39) || is_line_feed b then None
    else Some 1

abbrev pub closed_one : List ℕ → Option ℕ → Option ℕ
closed_one behind None = None
closed_one behind (Some n) = if begins (λ b. b == 39) (drop n behind) then Some (n + 2) else None

abbrev pub character_len : List ℕ → Option ℕ
character_len rest = closed_one (drop 1 rest) (one_len (drop 1 rest))

abbrev pub comment_len : List ℕ → Option ℕ
comment_len rest =
    if begins_with (codes "//") rest then Some (prefix_len (λ b. not (is_line_feed b)) rest)
    else if begins_with (codes "/*") rest then option_map (λ n. n + 2) (comment_end (drop 2 rest))
    else None

abbrev pub mark_len : List ℕ → Option ℕ
mark_len rest = if is_some (mark_of (take 2 rest)) then Some (length (take 2 rest)) else if is_some (mark_of (take 1 rest)) then Some 1 else None

-- `<`, the name of a header, which has so many bytes, and `>`
abbrev pub has_header : ℕ → List ℕ → Bool
has_header n rest = begins (λ b. b == 60) rest && is_header (take n (drop 1 rest)) && begins (λ b. b == 62) (drop n (drop 1 rest))

abbrev pub header_len : List ℕ → Option ℕ
header_len rest = if has_header (prefix_len is_name_byte (drop 1 rest)) rest then Some (prefix_len is_name_byte (drop 1 rest) + 2) else None

-- spaces and tabs, and then what another function counts
abbrev pub after_spaces : (List ℕ → Option ℕ) → List ℕ → Option ℕ
after_spaces count rest = option_map (λ n. prefix_len is_space rest + n) (count (drop (prefix_len is_space rest) rest))

-- `include`, spaces and tabs, and a header
abbrev pub include_len : List ℕ → Option ℕ
include_len rest = if begins_with (codes "include") rest then option_map (λ n. n + 7) (after_spaces header_len (drop 7 rest)) else None

-- a `#` and what follows it
abbrev pub hash_len : List ℕ → Option ℕ
hash_len rest = option_map (λ n. n + 1) (after_spaces include_len (drop 1 rest))

-- the length, where what stands behind fits; `opens` says whether what stands before does
abbrev pub closed_len : Bool → List ℕ → Option ℕ → Option ℕ
closed_len opens rest None = None
closed_len opens rest (Some n) = if opens && closes_directive (drop n rest) then Some n else None

-- ## The longest piece

abbrev pub as_piece : PieceKind → Option ℕ → Option (PieceKind × ℕ)
as_piece kind len = option_map (λ n. (kind, n)) len

abbrev pub comment_or_mark : Option ℕ → List ℕ → Option (PieceKind × ℕ)
comment_or_mark None rest = as_piece mark_piece (mark_len rest)
comment_or_mark (Some n) rest = Some (comment_piece, n)

-- by the class of the first byte
abbrev pub piece_in : First → Bool → List ℕ → Option (PieceKind × ℕ)
piece_in Blank opens rest = Some (blank_piece, 1)
piece_in Letter opens rest =
    if begins_lib rest then Some (lib_piece, 5 + prefix_len is_name_byte (drop 5 rest)) else Some (name_piece, prefix_len is_name_byte rest)
piece_in Digit opens rest = Some (number_piece, number_len rest)
piece_in Quote opens rest = as_piece text_piece (text_len rest)
piece_in Apostrophe opens rest = as_piece text_piece (character_len rest)
piece_in Hash opens rest = as_piece directive_piece (closed_len opens rest (hash_len rest))
piece_in Other opens rest = comment_or_mark (comment_len rest) rest

-- ## The rules

-- the first backslash directly before a line's end, among so many bytes
abbrev pub joint_in : ℕ → List ℕ → Option ℕ
joint_in n [] = None
joint_in zero (b ∷ bs) = None
joint_in (suc n) (b ∷ bs) = if begins_joint (b ∷ bs) then Some 0 else option_map (λ k. k + 1) (joint_in n bs)

abbrev pub judged_comment : ℕ → Option ℕ → Result (PieceKind × ℕ) (TokenRule × ℕ)
judged_comment len None = Ok (comment_piece, len)
judged_comment len (Some n) = Err (bad_byte, n)

abbrev pub judged_text : ℕ → Result (List ℕ) ℕ → Result (PieceKind × ℕ) (TokenRule × ℕ)
judged_text len (Ok bytes) = Ok (text_piece, len)
judged_text len (Err n) = Err (bad_byte, n)

-- the longest piece, or the rule that it breaks
abbrev pub judged : PieceKind → ℕ → List ℕ → Result (PieceKind × ℕ) (TokenRule × ℕ)
judged blank_piece len rest = Ok (blank_piece, len)
judged comment_piece len rest = judged_comment len (joint_in len rest)
judged directive_piece len rest = Ok (directive_piece, len)
judged name_piece len rest = if nat_lt NAME_BYTES len then Err (bad_byte, NAME_BYTES) else Ok (name_piece, len)
judged lib_piece len rest = if nat_lt (5 + NAME_BYTES) len then Err (bad_byte, 5 + NAME_BYTES) else Ok (lib_piece, len)
judged number_piece len rest =
    if nat_lt LARGEST_NUMBER (decimal (take len rest)) || begins spoils_number (drop len rest) then Err (bad_number, 0) else Ok (number_piece, len)
judged text_piece len rest = judged_text len (unescaped false (between (take len rest)))
judged mark_piece len rest = if begins_with (codes "/*") rest then Err (open_comment, 0) else Ok (mark_piece, len)

abbrev pub front_from : TokenRule → List ℕ → Option (PieceKind × ℕ) → Result (PieceKind × ℕ) (TokenRule × ℕ)
front_from rule rest None = Err (rule, 0)
front_from rule rest (Some p) = judged p.0 p.1 rest

abbrev pub front_in : First → Bool → List ℕ → Result (PieceKind × ℕ) (TokenRule × ℕ)
front_in first opens rest = front_from (rule_for first) rest (piece_in first opens rest)

-- a text of this length, if its line closes it
abbrev pub front_in_quotes : List ℕ → Option ℕ → Result (PieceKind × ℕ) (TokenRule × ℕ)
front_in_quotes rest len = front_from open_text rest (as_piece text_piece len)

-- `opens` says whether a directive may begin here, by what stands before
abbrev pub front_of : Bool → List ℕ → Result (PieceKind × ℕ) (TokenRule × ℕ)
front_of opens rest = front_in (first_at rest) opens rest
