-- Lists of lists to which things are added.
use Rattle.cif_expansion.proofs.Common.{◌≡◌, ◌⊎◌, ℕ, ◌<◌, List, [], ◌++◌, inl, inr, length, refl, sym, ◌∙◌, ap, subst, slice_set, In}
use Rattle.cif_expansion.proofs.Common.{In-append_cases, In-append_left, In-append_right, list_at, AreAdded}
use Rattle.std.proofs.Common.{◌≢◌}
use Rattle.std.specs.Prelude.{slice_index_or}
use Rattle.std.proofs.lemmas.List.{get_or_default, set-set}
use Rattle.std.proofs.Common.{get_or-set_other, get_or-set_same, length-set}
use Rattle.std.proofs.lemmas.Bool.Decides.{eqb_tells}

-- nothing is added
pub added-none : {X : Type 0} (P : ℕ → X → Type 0) (lists : List (List X)) → ((place : ℕ) (x : X) → P place x → ⊥) → AreAdded P lists lists
added-none P lists none = record {
  so_many = refl;
  kept = λ place x there. there;
  added = λ place x is. absurd (none place x is);
  only = λ place x there. inl there;
}

-- the same things, told otherwise
pub added-same : {X : Type 0} (P Q : ℕ → X → Type 0) (old new : List (List X)) → ((place : ℕ) (x : X) → P place x → Q place x)
    → ((place : ℕ) (x : X) → Q place x → P place x) → AreAdded P old new → AreAdded Q old new
added-same P Q old new to back are = record {
  so_many = are.so_many;
  kept = are.kept;
  added = λ place x is. are.added place x (back place x is);
  only = λ place x there. elim (are.only place x there) [ inl before ↦ inl before | inr is ↦ inr (to place x is) ];
}

-- first these, and then those
pub added-then : {X : Type 0} (P Q : ℕ → X → Type 0) (old between new : List (List X)) → AreAdded P old between → AreAdded Q between new
    → AreAdded (λ place x. P place x ⊎ Q place x) old new
added-then P Q old between new first second = record {
  so_many = second.so_many ∙ first.so_many;
  kept = λ place x there. second.kept place x (first.kept place x there);
  added = λ place x is. elim is [ inl p ↦ second.kept place x (first.added place x p) | inr q ↦ second.added place x q ];
  only = λ place x there. elim (second.only place x there) [
    | inl before ↦ elim (first.only place x before) [ inl old ↦ inl old | inr p ↦ inr (inl p) ]
    | inr q ↦ inr (inr q)
  ];
}

-- a list is put behind the one at a place
pub added-set : {X : Type 0} (lists : List (List X)) (place : ℕ) (more : List X) → place < length lists
    → AreAdded (λ other x. (place ≡ other) × In x more) lists (slice_set lists place (list_at lists place ++ more))
added-set {X} lists place more below =
    let new : List (List X) = slice_set lists place (list_at lists place ++ more) in
    let here : list_at new place ≡ list_at lists place ++ more = get_or-set_same lists place (list_at lists place ++ more) [] below in
    let there : (other : ℕ) → other ≢ place → list_at new other ≡ list_at lists other =
    λ other ne. get_or-set_other lists place other (list_at lists place ++ more) [] ne in
    let same : (other : ℕ) → place ≡ other → list_at new other ≡ list_at lists other ++ more =
    λ other is. subst (λ n. list_at new n ≡ list_at lists n ++ more) is here in
    record {
      so_many = length-set lists place (list_at lists place ++ more);
      kept = λ other x was. elim (eqb_tells place other) [
        | inl (_, is) ↦ subst (In x) (sym (same other is)) (In-append_left x (list_at lists other) more was)
        | inr (_, ne) ↦ subst (In x) (sym (there other (λ is. ne (sym is)))) was
      ];
      added = λ other x is. subst (In x) (sym (same other is.0)) (In-append_right x (list_at lists other) more is.1);
      only = λ other x now. elim (eqb_tells place other) [
        | inl (_, is) ↦ elim (In-append_cases x (list_at lists other) more (subst (In x) (same other is) now)) [
          | inl was ↦ inl was
          | inr new ↦ inr (is, new)
        ]
        | inr (_, ne) ↦ inl (subst (In x) (there other (λ is. ne (sym is))) now)
      ];
    }

-- the list at a place is taken out, something is put behind it, and it is put back
pub replaced_longer : {X : Type 0} (lists : List (List X)) (place : ℕ) (first own taken vec more result : List X) → place < length lists
    → own ≡ slice_index_or lists place own → taken ≡ own → vec ≡ taken → result ≡ vec ++ more
    → slice_set (slice_set lists place first) place result ≡ slice_set lists place (list_at lists place ++ more)
replaced_longer {X} lists place first own taken vec more result below is same again longer =
    let had : own ≡ list_at lists place = is ∙ get_or_default lists place own [] below in
    set-set lists place first result
    ∙ ap (slice_set lists place) (longer ∙ ap (λ (xs : List X). xs ++ more) (again ∙ same ∙ had))
