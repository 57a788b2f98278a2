use Rattle.element_paths.proofs.Common.{◌≡◌, ℕ, ℤ, pos, ◌<◌, List, length, Some, None, to_z, of_z, w64, sym, ap, subst, ◌∙◌, arith, rules, Option}
use Rattle.element_paths.proofs.Common.{slice_get, option_map, to_z-of_z, slice_get-map, Grid, elements_of, displacements, array_element}
use Rattle.element_paths.proofs.Common.{use_elements, HasNameAt}
use Rattle.std.proofs.lemmas.Result.{IfOk-weaker}
use Rattle.library_trees.specs.ElementNames.{indexed_name}
use Rattle.element_paths.proofs.element_names.element_name.Goals as goal

-- an element of an array has a name with its two indices
indexed_at : (id : List ℕ) (found : Option Grid) (grid : Grid) (n : ℕ) (element : ℤ × ℤ × ℤ × ℤ) (name : List ℕ) → found ≡ Some grid
    → slice_get (elements_of grid) n ≡ Some element → name ≡ indexed_name id element.0 element.1 → HasNameAt id found n name
indexed_at id found grid n element name is at named_so =
    subst (λ (g : Option Grid). HasNameAt id g n name) (sym is) (record {
      displaced = (element.2, element.3);
      there = slice_get-map (array_element id) (elements_of grid) n ∙ ap (option_map (array_element id)) at
          ∙ ap (λ (text : List ℕ). Some (record { name = text; step = (element.2, element.3) })) (sym named_so);
    })

-- the one element of a use without a grid has the use's id as its name
single_at : (id : List ℕ) (found : Option Grid) (n : ℕ) (name : List ℕ) → found ≡ None → n < length (displacements found) → name ≡ id
    → HasNameAt id found n name
single_at id found n name is within named_so =
    let few : n < 1 = subst (λ (g : Option Grid). n < length (displacements g)) is within in
    let first : n ≡ 0 = omega (arith, few) in
    subst (λ (g : Option Grid). HasNameAt id g n name) (sym is) (record {
      displaced = (pos 0, pos 0);
      there = ap (slice_get (use_elements id None)) first
          ∙ ap (λ (text : List ℕ). Some (record { name = text; step = (pos 0, pos 0) })) (sym named_so);
    })

pub returns-in_ok-text-in-Some : goal.returns-in_ok-text-in-Some
returns-in_ok-text-in-Some c =
    let i : to_z w64 (of_z w64 c.element-i.result.0) ≡ c.element-i.result.0 = to_z-of_z w64 c.element-i.result.0 (search rules) in
    let j : to_z w64 (of_z w64 c.element-i.result.1) ≡ c.element-i.result.1 = to_z-of_z w64 c.element-i.result.1 (search rules) in
    IfOk-weaker c.of.result (λ (name : List ℕ). name ≡ c.as_slice.result.now) (HasNameAt c.args.id.now c.args.grid.now c.args.n)
    (λ name is. indexed_at c.args.id.now c.args.grid.now c.in-Some.grid c.args.n c.element-i.result name c.in-Some.is c.element-i.ensures.nth
    (is ∙ c.as_slice.ensures.value ∙ c.in_ok-text-in-Some.ensures ∙ (λ k. indexed_name c.args.id.now (i k) (j k))))
    c.of.ensures

pub returns-in-None : goal.returns-in-None
returns-in-None c =
    IfOk-weaker c.of-in-None.result (λ (name : List ℕ). name ≡ c.args.id.now) (HasNameAt c.args.id.now c.args.grid.now c.args.n)
    (λ name is. single_at c.args.id.now c.args.grid.now c.args.n name c.in-None.is c.requires.n is)
    c.of-in-None.ensures
