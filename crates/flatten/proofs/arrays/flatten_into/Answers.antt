use Rattle.flatten.proofs.Common.{◌≡◌, ℕ, true, List, length, sym, ap, subst, ◌∙◌, arith, slice_get, IsSome, length-map, err_from_is_err_and}
use Rattle.flatten.proofs.Common.{IfOk-weaker, IfErr-weaker, CellExt, AreRecords, ext_of, IsFlatOf, IsGiven, with_fets}
use Rattle.plain_records.specs.Plains.{plains}
use Rattle.plain_records.specs.Thin.{thin}
use Rattle.plain_records.specs.Reached.{IsExpandedAt}
use Rattle.flatten.proofs.ArrayLaws.{told_by, some_thin, fault_of, some_new, flat_is, fault_is}
use Rattle.flatten.proofs.arrays.flatten_into.Goals as goal

-- the root's place, in a slice of the records too
found_at : (root : List ℕ) (number : ℕ) {lent exts : List CellExt} → lent ≡ exts → slice_get lent number ≡ ext_of lent root
    → slice_get exts number ≡ ext_of exts root
found_at root number same found = subst (λ (l : List CellExt). slice_get l number ≡ ext_of l root) same found

pub root_number-top-requires : goal.root_number-top-requires
root_number-top-requires g c =
    let S : List CellExt → Type 0 = λ l. IsSome (ext_of l c.args.root.now) in
    subst S (sym (c.as_slice.ensures.value ∙ c.in_ok-thin.ensures)) (some_thin c.args.exts.now c.args.root.now c.requires.root)

pub plain_records-requires-clause-root : goal.plain_records-requires-clause-root
plain_records-requires-clause-root g c =
    let long = ap length (c.as_slice.ensures.value ∙ c.in_ok-thin.ensures) in
    omega (arith, long, length-map c.args.exts.now thin, c.root_number-top.ensures.within)

pub returns-in_err-records-clause-fault : goal.returns-in_err-records-clause-fault
returns-in_err-records-clause-fault g c =
    let found = found_at c.args.root.now c.root_number-top.result (c.as_slice.ensures.value ∙ c.in_ok-thin.ensures) c.root_number-top.ensures.found in
    let given = err_from_is_err_and c.from_residual-in_err-records.result c.from_residual-in_err-records.ensures.1 in
    rw (given.1, given.2) (told_by (fault_of _ c.requires.records _ _ found c.requires.root _) c.in_err-records.ensures.fault)

pub flatten_plain-requires-clause-records : goal.flatten_plain-requires-clause-records
flatten_plain-requires-clause-records g c =
    let R : List CellExt → Type 0 = AreRecords in subst R (sym c.as_slice-2.ensures.value) c.in_ok-records.ensures.records.expanded.lawful

pub flatten_plain-requires-clause-root : goal.flatten_plain-requires-clause-root
flatten_plain-requires-clause-root g c =
    let found = found_at c.args.root.now c.root_number-top.result (c.as_slice.ensures.value ∙ c.in_ok-thin.ensures) c.root_number-top.ensures.found in
    let S : List CellExt → Type 0 = λ l. IsSome (ext_of l c.args.root.now) in
    subst S (sym c.as_slice-2.ensures.value)
    (some_new c.args.exts.now c.requires.records c.args.root.now c.root_number-top.result found c.requires.root c.in_ok-records.records.items
    c.in_ok-records.ensures.records)

pub returns-clause-meaning : goal.returns-clause-meaning
returns-clause-meaning g c =
    let found = found_at c.args.root.now c.root_number-top.result (c.as_slice.ensures.value ∙ c.in_ok-thin.ensures) c.root_number-top.ensures.found in
    let ready = subst (IsExpandedAt true c.args.exts.now c.root_number-top.result) (sym c.as_slice-2.ensures.value) c.in_ok-records.ensures.records in
    let have = g.S.FetSink.has in
    IfOk-weaker c.flatten_plain.result (IsGiven have (IsFlatOf c.as_slice-2.result.now c.args.root.now))
    (IsGiven have (IsFlatOf (plains c.args.exts.now) c.args.root.now))
    (λ given is. (is.0, (is.1.0, flat_is _ c.requires.records _ _ found c.requires.root _ ready (with_fets given is.0) is.1.1)))
    c.flatten_plain.ensures.meaning

pub returns-clause-fault : goal.returns-clause-fault
returns-clause-fault g c =
    let found = found_at c.args.root.now c.root_number-top.result (c.as_slice.ensures.value ∙ c.in_ok-thin.ensures) c.root_number-top.ensures.found in
    let ready = subst (IsExpandedAt true c.args.exts.now c.root_number-top.result) (sym c.as_slice-2.ensures.value) c.in_ok-records.ensures.records in
    IfErr-weaker c.flatten_plain.result _ _
    (λ fault. told_by (fault_is _ c.requires.records _ _ found c.requires.root _ ready fault))
    c.flatten_plain.ensures.fault
