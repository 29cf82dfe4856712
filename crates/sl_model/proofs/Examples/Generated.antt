-- The text that checks the tool, for few sections, and its counts.
use Rattle.std.specs.Prelude.{◌≡◌, ◌++◌, refl, codes}
use Rattle.std.specs.Fmt.{digits}
use Rattle.sl_model.specs.Reports.Self.{generated, section, line_count, summary_line}

one_section : generated 1
    ≡ codes "int main() {\n  std::vector<int> v;\n  int x;\n  while (std::cin >> x) v.push_back(x);\n"
    ++ codes "  for (auto it = v.begin(); it != v.end(); ) {\n    if (*it == 1) it = v.erase(it); else ++it;\n  }\n}\n"
unfolding digits
one_section = refl

second_section : section 2 ≡ codes "  for (std::size_t i = 0; i < v.size(); ++i) v[i] = 2;\n"
unfolding digits
second_section = refl

third_section : section 3 ≡ codes "  std::sort(v.begin(), v.end());\n  if (std::binary_search(v.begin(), v.end(), 3)) v.push_back(3);\n"
unfolding digits
third_section = refl

-- sections come in order
three_sections : generated 3 ≡ (codes "int main() {\n  std::vector<int> v;\n  int x;\n  while (std::cin >> x) v.push_back(x);\n"
    ++ (section 1 ++ (section 2 ++ (section 3 ++ codes "}\n"))))
unfolding digits
three_sections = refl

-- four lines, 67 sections of three lines, 67 of one and 66 of two, and the last line
lines_of_200 : line_count (generated 200) ≡ 405
unfolding digits
lines_of_200 = refl

summary : summary_line 200 405 135 0 ≡ codes "self 200: lines 405, sites 135, warnings 0\n"
unfolding digits
summary = refl
