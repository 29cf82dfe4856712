-- The text that the tool makes to check itself, for a number of sections, and the line that tells of its check.
--
-- No standard says any of it; all of it is chosen here. The text reads a vector of ints; then each section, by its number, erases the
-- elements that are this number, or sets each element to it, or sorts the vector and adds the number where it is in it.
use Rattle.std.specs.Prelude.{ℕ, zero, suc, ◌%◌, ◌==◌, List, [], ◌∷◌, ◌++◌, count_by, codes, decimal, if◌then◌else◌}

-- the lines before the sections
abbrev pub opening : List ℕ
opening = codes "int main() {\n  std::vector<int> v;\n  int x;\n  while (std::cin >> x) v.push_back(x);\n"

-- the elements that are a number go
abbrev pub erasing : List ℕ → List ℕ
erasing number = codes "  for (auto it = v.begin(); it != v.end(); ) {\n    if (*it == " ++ (number ++ codes ") it = v.erase(it); else ++it;\n  }\n")

-- each element becomes a number
abbrev pub setting : List ℕ → List ℕ
setting number = codes "  for (std::size_t i = 0; i < v.size(); ++i) v[i] = " ++ (number ++ codes ";\n")

-- a number that is there comes once more
abbrev pub sorting : List ℕ → List ℕ
sorting number = codes "  std::sort(v.begin(), v.end());\n  if (std::binary_search(v.begin(), v.end(), " ++ (number ++ (codes ")) v.push_back(" ++
    (number ++ codes ");\n")))

-- the section with a number
abbrev pub section : ℕ → List ℕ
section k = if k % 3 == 1 then erasing (decimal k) else if k % 3 == 2 then setting (decimal k) else sorting (decimal k)

-- the sections from 1 to a number
abbrev pub sections : ℕ → List ℕ
sections zero = []
sections (suc n) = sections n ++ section (suc n)

-- the text with so many sections
abbrev pub generated : ℕ → List ℕ
generated n = opening ++ (sections n ++ codes "}\n")

-- how many lines there are
abbrev pub line_count : List ℕ → ℕ
line_count text = count_by (λ b. b == 10) text

-- what is told of the check: the sections, and the counts of lines, sites and warnings
abbrev pub summary_line : (n lines sites warnings : ℕ) → List ℕ
summary_line n lines sites warnings = codes "self " ++ (decimal n ++ (codes ": lines " ++ (decimal lines ++ (codes ", sites " ++ (decimal sites ++
    (codes ", warnings " ++ (decimal warnings ++ 10 ∷ [])))))))
