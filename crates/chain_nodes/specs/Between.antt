-- How many numbers of a list lie between two.
use Rattle.std.specs.Prelude.{ℕ, ◌&&◌, nat_le, List, count_by}

abbrev pub count_between : ℕ → ℕ → List ℕ → ℕ
count_between low high list = count_by (λ y. nat_le low y && nat_le y high) list
