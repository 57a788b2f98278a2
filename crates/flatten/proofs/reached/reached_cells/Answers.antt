use Rattle.flatten.proofs.Common.{◌≡◌, ℕ, true, length, get_or, arith, sym, ◌∙◌, ap, subst, inl, inr, slice_get, set, length-set, cases_lt}
use Rattle.flatten.proofs.Common.{slice_get_within, tree_of_names, IsReached, no_flat, cell_at}
use Rattle.flatten.proofs.PlaceLaws.{place_set, place_set_cases, place_set_again}
use Rattle.flatten.proofs.SpotLaws.{element_here}
use Rattle.flatten.proofs.reached.reached_cells.Goals as goal

pub index_mut-requires : goal.index_mut-requires
index_mut-requires c =
    let names = c.args.names.now in
    let flats = c.items-element-items.result.now in
    let i = c.loop-element.element-index in
    let all = c.items-element-items.ensures ∙ ap (λ tree. tree.elements) c.requires.tree in
    let here = element_here names c.requires.names flats all i c.loop-element-test.true no_flat in
    let within = slice_get_within names.exts.now (get_or flats i no_flat).cell _ here.of.found in
    let long = c.loop-element.invariant.long in
    let count = c.requires.count in
    let stored = c.loop-element.reached.ok.0 in
    omega (arith, within, long, count, stored)

pub loop-element-preserved : goal.loop-element-preserved
loop-element-preserved c =
    let names = c.args.names.now in
    let flats = c.items-element-items.result.now in
    let i = c.loop-element.element-index in
    let reached = c.loop-element.reached.items in
    let all = c.items-element-items.ensures ∙ ap (λ tree. tree.elements) c.requires.tree in
    let here = element_here names c.requires.names flats all i c.loop-element-test.true no_flat in
    let cell = (get_or flats i no_flat).cell in
    let within = slice_get_within names.exts.now cell _ here.of.found in
    let long = c.loop-element.invariant.long in
    let count = c.requires.count in
    record {
      long = length-set reached cell true ∙ long;
      sound = λ one at. elim (place_set_cases reached cell true true one at) [
        | inl was ↦ c.loop-element.invariant.sound one was
        | inr now ↦ (let P : ℕ → Type 0 = IsReached names in subst P (sym now.0) here.of.reached)
      ];
      whole = λ number less. elim (cases_lt number i) [
        | inl below ↦ place_set_again reached cell true (cell_at names number) (c.loop-element.invariant.whole number below)
        | inr past ↦
            (let same : number ≡ i = omega (arith, less, past) in
            ap (λ (k : ℕ). slice_get (set reached cell true) (cell_at names k)) same ∙ ap (slice_get (set reached cell true)) here.cell
            ∙ place_set reached cell true (omega (arith, within, long, count)))
      ];
    }

pub returns : goal.returns
returns c =
    let names = c.args.names.now in
    let long = (tree_of_names names c.requires.names).long in
    let past = c.loop-element-test.false in
    let all : length c.items-element-items.result.now ≡ length names.tree.now.elements =
    ap length (c.items-element-items.ensures ∙ ap (λ tree. tree.elements) c.requires.tree) in
    record {
      long = c.loop-element.invariant.long ∙ c.requires.count;
      sound = c.loop-element.invariant.sound;
      whole = λ number less. c.loop-element.invariant.whole number (omega (arith, past, all, long, less));
    }
