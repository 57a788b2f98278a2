-- Classes of the numbers below n by their leaders: each number's mark is the least member of its class.
use Rattle.std.specs.Prelude.{ℕ, ◌+◌, ◌==◌, zero, suc, min, max, if◌then◌else◌, List, map, slice_index}
use Rattle.std.specs.List.{range_with_len}

-- the leaders while no two numbers are joined: each number leads itself alone
unfoldable pub numbers_below : ℕ → List ℕ
numbers_below n = range_with_len 0 n

-- the leaders once the classes of a and b are one: the lesser of their two leads it
abbrev pub joined_leaders : List ℕ → ℕ → ℕ → List ℕ
joined_leaders leaders a b =
    let x = slice_index leaders a in
    let y = slice_index leaders b in
    map (λ k. if k == max x y then min x y else k) leaders

-- how many classes have a leader below the number
abbrev pub classes_below : List ℕ → ℕ → ℕ
classes_below leaders zero = 0
classes_below leaders (suc k) = classes_below leaders k + (if slice_index leaders k == k then 1 else 0)

-- at each number, how many classes have a lesser leader than its own
abbrev pub labels_of : List ℕ → List ℕ
labels_of leaders = map (λ leader. classes_below leaders leader) leaders
