-- The search for the node of a name.
use Rattle.vector_runs.proofs.Common.{◌≡◌, ℕ, suc, ◌+◌, ◌<◌, ◌≤◌, List, ◌∷◌, inl, inr, refl, sym, ap, subst, ◌∙◌, length, get_or, drop, ◌↔◌, Some}
use Rattle.vector_runs.proofs.Common.{None, HasName, NameOneNodeEach}
use Rattle.std.proofs.Common.{add-one, drop-cons}
use Rattle.std.proofs.lemmas.List.{drop_all}
use Rattle.switch_net.specs.FiniteSets.Lists.{In}
use Rattle.switch_net.proofs.FiniteSets.Members.{In-get_or}
use Rattle.vector_runs.proofs.Starts.{pairs_eq}

module _ (names : List (List ℕ × ℕ)) (name : List ℕ) where
  -- the node beside the name is the one that it has
  pub found_here : (k : ℕ) (item : List ℕ × ℕ) → NameOneNodeEach names → k < length names → item ≡ get_or names k item → item.0 ≡ name →
      (v : ℕ) → (Some item.1 ≡ Some v) ↔ HasName names v name
  found_here k item one lt is same v =
      let at : item ≡ (name, item.1) = pairs_eq same refl in
      let here : HasName names item.1 name = subst (λ (p : List ℕ × ℕ). In p names) (sym is ∙ at) (In-get_or names k item lt) in (
        (λ e. let node : item.1 ≡ v = cc in subst (λ (w : ℕ). HasName names w name) node here),
        (λ h. ap Some (one name item.1 v here h)),
      )

  -- where another name stands next, this one stands behind it
  pub behind_more : (k : ℕ) (item : List ℕ × ℕ) → k < length names → item ≡ get_or names k item → ¬ (item.0 ≡ name) →
      ((v : ℕ) → HasName names v name → HasName (drop k names) v name) → (v : ℕ) → HasName names v name →
      HasName (drop (k + 1) names) v name
  behind_more k item lt is other behind v h =
      let next : HasName (get_or names k item ∷ drop (suc k) names) v name =
      subst (λ (rest : List (List ℕ × ℕ)). HasName rest v name) (drop-cons names k item lt) (behind v h) in
      elim next [
        | inl e ↦ absurd (other (ap (λ (p : List ℕ × ℕ). p.0) (is ∙ e)))
        | inr later ↦ rw add-one later
      ]

  -- a name that stands behind all has no node
  pub not_found : (k : ℕ) → length names ≤ k → ((v : ℕ) → HasName names v name → HasName (drop k names) v name) →
      (v : ℕ) → (None ≡ Some v) ↔ HasName names v name
  not_found k all behind v = (
    (λ e. absurd (cc)),
    (λ h. absurd (subst (λ (rest : List (List ℕ × ℕ)). HasName rest v name) (drop_all k names all) (behind v h))),
  )
