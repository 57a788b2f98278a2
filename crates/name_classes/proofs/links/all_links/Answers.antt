use Rattle.name_classes.proofs.Common.{◌≡◌, ◌⊎◌, ◌<◌, ℕ, List, length, get_or, inl, inr, refl, ◌∙◌, ap, arith, slice_get_read, Some, slice_get}
use Rattle.name_classes.proofs.Common.{Memory, CellExt, TreeElement, ElementTree, IsPathFaultOf}
use Rattle.std.proofs.lemmas.List.{length-replicate}
use Rattle.std.specs.Prelude.{Bool, true, false, replicate}
use Rattle.name_classes.proofs.FaultLaws.{err_same}
use Rattle.name_classes.proofs.RecordLaws.{no_element, stands_read, cell_read}
use Rattle.name_classes.proofs.SeenLaws.{seen_start, seen_next, seen_set, seen_end, seen_fault, written}
use Rattle.name_classes.proofs.links.all_links.Goals.{then-not-index+in_ok-links, else-not-index}
use Rattle.name_classes.proofs.links.all_links.Goals as goal

pub loop-number-init : goal.loop-number-init
loop-number-init c =
    let names = c.args.resolver.now.names.now in
    let so_many = ap (λ (exts : List CellExt). length exts) c.requires.exts in
    let fresh = c.in_ok-seen.ensures.items_if_clones_equal (λ y same. same) ∙ ap (λ (n : ℕ). replicate n false) so_many in
    let long_seen = ap (λ (seen : List Bool). length seen) fresh ∙ length-replicate (length names.exts.now) false in
    seen_start names c.requires.names c.in_ok-seen.seen.items c.in_ok-all.all.items fresh long_seen (c.in_ok-all.ensures ∙ so_many)

pub index-requires : goal.index-requires
index-requires c =
    let within : c.loop-number.number < length c.args.resolver.now.tree.now.elements =
    omega (arith, c.loop-number-test.true, ap (λ (all : List TreeElement). length all) c.items-element-items.ensures) in
    let cell = cell_read c.args.resolver.now c.requires c.loop-number.number within c.items-element-items.result.now c.items-element-items.ensures no_element in
    omega (arith, cell, c.loop-number.invariant.long_seen, ap (λ (exts : List CellExt). length exts) c.requires.exts, c.loop-number.seen.ok)

pub returns-in_err-links-clause-err : goal.returns-in_err-links-clause-err
returns-in_err-links-clause-err c =
    let names = c.args.resolver.now.names.now in
    let fault = c.in_err-links.field-0.0 in
    let within : c.loop-number.number < length names.tree.now.elements =
    omega (
      arith,
      c.loop-number-test.true,
      ap (λ (all : List TreeElement). length all) c.items-element-items.ensures,
      ap (λ (tree : ElementTree). length tree.elements) c.requires.tree,
    ) in
    err_same c.from_residual-in_err-links.result fault c.from_residual-in_err-links.ensures.1 (λ x. (x ≡ Memory) ⊎ IsPathFaultOf names x)
    (elim c.in_err-links.ensures.err as (λ _. (fault ≡ Memory) ⊎ IsPathFaultOf names fault) [
      | inl memory ↦ inl memory
      | inr of ↦ inr (seen_fault names c.requires.names c.loop-number.number within c.loop-number.seen.items c.loop-number.all.items
          c.loop-number.invariant fault of)
    ])

pub loop-number-preserved : goal.loop-number-preserved
loop-number-preserved c =
    let resolver = c.args.resolver.now in
    let names = resolver.names.now in
    let number = c.loop-number.number in
    let flat = get_or c.items-element-items.result.now number no_element in
    let old = c.loop-number.invariant in
    let within : number < length resolver.tree.now.elements =
    omega (arith, c.loop-number-test.true, ap (λ (all : List TreeElement). length all) c.items-element-items.ensures) in
    let stands = stands_read resolver c.requires number within c.items-element-items.result.now c.items-element-items.ensures no_element in
    let cell = cell_read resolver c.requires number within c.items-element-items.result.now c.items-element-items.ensures no_element in
    let inside : flat.cell < length names.exts.now = omega (arith, cell, ap (λ (exts : List CellExt). length exts) c.requires.exts) in
    elim c.if-not-index.branch [
      | then-not-index+in_ok-links w ↦
          let seen = written c.loop-number.seen c.if-not-index.seen w.deref_mut.result.now w.put_links.new.seen flat.cell true w.deref_mut.ensures.value
          w.put_links.ensures.seen w.seen-is in
          let all = written c.loop-number.all c.if-not-index.all w.deref_mut-then-not-index.result.now w.put_links.new.all flat.cell w.in_ok-links.links
          w.deref_mut-then-not-index.ensures.value w.put_links.ensures.all w.all-is in
          rw (seen, all) (seen_set names c.requires.names number flat stands c.loop-number.seen.items c.loop-number.all.items old inside w.in_ok-links.links
          w.in_ok-links.ensures.element w.in_ok-links.ensures.links)
      | else-not-index w ↦
          let marked : slice_get c.loop-number.seen.items flat.cell ≡ Some true =
          slice_get_read c.loop-number.seen.items (length c.loop-number.seen.items) flat.cell true refl (omega (arith, old.long_seen, inside))
          (rw w.if-not-index.false at c.index.ensures) in
          rw (w.seen-is, w.all-is) (seen_next names c.requires.names number flat stands c.loop-number.seen.items c.loop-number.all.items old marked)
    ]

pub returns-clause-ok : goal.returns-clause-ok
returns-clause-ok c =
    let names = c.args.resolver.now.names.now in
    let so_many : length names.tree.now.elements ≡ c.loop-number.number =
    omega (
      arith,
      c.loop-number-test.false,
      c.loop-number.auto.number-end,
      ap (λ (all : List TreeElement). length all) c.items-element-items.ensures,
      ap (λ (tree : ElementTree). length tree.elements) c.requires.tree,
    ) in
    seen_end names c.requires.names c.loop-number.number so_many c.loop-number.seen.items c.loop-number.all.items c.loop-number.invariant
