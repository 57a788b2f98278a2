-- What a contract sees of an arena.
use Rattle.std.specs.Prelude.{◌≡◌, ℕ, ◌+◌, ◌<◌, ◌≤◌, Option, Some, None, IsSome, refl}
use Rattle.std.specs.Ordering.{nat_cmp}
use Rattle.std.specs.FinMap as fin_map
use Rattle.std.specs.Coded.{Coded, code_by, coded×, coded_ℕ}
use Rattle.tile_arena.specs.declared.ids.Id.{Id}

-- the value under the number of each live id, and how many more values there is room for
pub record Arena (T : Type 0) : Type 0 where
  pub live : fin_map.FinMap nat_cmp T
  pub spare : ℕ

-- an arena is stored as the pair of its fields
abbrev pub arena_code : {T : Type 0} → Coded T → Coded (Arena T)
arena_code {T} code =
    code_by (fin_map.FinMap nat_cmp T × ℕ) (coded× (fin_map.code coded_ℕ code) coded_ℕ) (λ a. (a.live, a.spare)) (λ p. record { live = p.0; spare = p.1 })
    (λ _. refl)

-- the first number that an id above the given one may have
abbrev pub number_after : Option Id → ℕ
number_after None = 0
number_after (Some id) = id.0 + 1

module _ {T : Type 0} where
  -- the value of an id, if the id is live
  abbrev pub value_at : Arena T → Id → Option T
  value_at arena id = fin_map.get arena.live id.0

  abbrev pub IsLive : Arena T → Id → Type 0
  IsLive arena id = IsSome (value_at arena id)

  -- how many ids are live
  abbrev pub count_live : Arena T → ℕ
  count_live arena = fin_map.len arena.live

  -- the arena with this value under the id
  abbrev pub with_value : Arena T → Id → T → Arena T
  with_value arena id value = record arena { live = fin_map.insert arena.live id.0 value }

  -- no id from one number on and below the other is live
  abbrev pub NoneLiveWithin : Arena T → ℕ → ℕ → Type 0
  NoneLiveWithin arena from to = (id : Id) → from ≤ id.0 → id.0 < to → value_at arena id ≡ None

  -- the result is the least live id from the number on, and none only where there is none
  abbrev pub IsLeastLiveFrom : Arena T → ℕ → Option Id → Type 0
  IsLeastLiveFrom arena from None = (id : Id) → from ≤ id.0 → value_at arena id ≡ None
  IsLeastLiveFrom arena from (Some id) = (from ≤ id.0) × IsLive arena id × NoneLiveWithin arena from id.0
