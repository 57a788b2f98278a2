use Rattle.tile_members.proofs.Common.{◌≡◌, ◌<◌, ℕ, List, length, sym, ap, ◌∙◌, arith, get_or, flat_map, slice_get_within, MergeRow, MergeRec}
use Rattle.tile_members.proofs.Common.{plain_merges, first_member}
use Rattle.std.proofs.lemmas.Option.{get_or_from_slice_get}
use Rattle.tile_members.proofs.MergeFinds.{IsFirstRow, found_first, found_none}
use Rattle.tile_members.proofs.groups.RecordGroups.first_member.Goals as goal

-- the first row stands among the rows
stands : (rows : List MergeRow) (member : List ℕ) (found : ℕ) → IsFirstRow 0 rows member found → found < length rows
stands rows member found at = let below = slice_get_within rows at.place at.row at.there in let is = at.is in omega arith

-- what stands there is the row
row_there : (rows : List MergeRow) (member : List ℕ) (found : ℕ) (other : MergeRow) → IsFirstRow 0 rows member found
    → (get_or rows found other).first ≡ first_member (flat_map plain_merges rows) member
row_there rows member found other at =
    let place : found ≡ at.place = let is = at.is in omega arith in
    ap (λ (row : MergeRow). row.first)
    (ap (λ (k : ℕ). get_or rows k other) place ∙ get_or_from_slice_get rows at.place at.row other at.there)
    ∙ at.first

pub returns-in_err-number : goal.returns-in_err-number
returns-in_err-number c =
    rw c.from_residual.ensures
    (found_none 0 c.self.inside.rows.now c.args.member.now (sym (c.self.invariant c.args.member.now) ∙ sym c.in_err-number.ensures.value)
    ∙ ap (λ (merges : List MergeRec). first_member merges c.args.member.now) c.self.view_is)

pub offset_bounds-self-inside-number : goal.offset_bounds-self-inside-number
offset_bounds-self-inside-number c =
    let rows = c.self.inside.rows.now in
    let member = c.args.member.now in
    let found = c.in_ok-number.field-0.now in
    let below =
    stands rows member found (found_first 0 rows member found (sym (c.self.invariant member) ∙ sym c.in_ok-number.ensures.value)) in
    omega (arith, below, c.self.told)

pub bounds-self-inside-number : goal.bounds-self-inside-number
bounds-self-inside-number c =
    let rows = c.self.inside.rows.now in
    let member = c.args.member.now in
    let found = c.in_ok-number.field-0.now in
    stands rows member found (found_first 0 rows member found (sym (c.self.invariant member) ∙ sym c.in_ok-number.ensures.value))

pub returns : goal.returns
returns c =
    let rows = c.self.inside.rows.now in
    let member = c.args.member.now in
    let found = c.in_ok-number.field-0.now in
    row_there rows member found c.index-self-number.result
    (found_first 0 rows member found (sym (c.self.invariant member) ∙ sym c.in_ok-number.ensures.value))
    ∙ ap (λ (all : List MergeRec). first_member all member) c.self.view_is
