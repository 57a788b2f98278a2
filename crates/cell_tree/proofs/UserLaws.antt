-- The users that a cell knows, after one comes or goes.
use Rattle.cell_tree.proofs.Common.{◌≡◌, ◌≢◌, ◌↔◌, inl, inr, ℕ, zero, suc, true, false, List, [], ◌∷◌, ◌++◌, length, get_or, refl, sym, ap, subst}
use Rattle.cell_tree.proofs.Common.{◌∙◌, arith, Contains, nat_eq, if◌then◌else◌, cases_lt, cases_Bool, eqb-true, eq-eqb, ne_eqb, both_ways}
use Rattle.cell_tree.proofs.Common.{get_or_append_left, get_or_at, length-append, insert_key, TreeCell, HasChild, states, users_of, cell_at}
use Rattle.cell_tree.proofs.Common.{AreUsersKept, AreUsersBut, knows}
use Rattle.std.specs.List.{list_any}
use Rattle.std.proofs.lemmas.Bool.{or_left, or_right}
use Rattle.indexmap.proofs.CallerLemmas.{Contains-insert_key, Contains-list_any}

-- the test tells what stands in the list
pub knows_contains : (ks : List ℕ) (user : ℕ) → knows ks user ≡ true → Contains ks user
knows_contains ks user is = Contains-list_any nat_eq eqb-true ks user is

pub contains_knows : (ks : List ℕ) (user : ℕ) → Contains ks user → knows ks user ≡ true
contains_knows [] user has = absurd (omega (arith, has.1))
contains_knows (x ∷ xs) user (zero, below, is) = or_left (nat_eq user x) (knows xs user) (eq-eqb user x (sym is))
contains_knows (x ∷ xs) user (suc k, below, is) = or_right (nat_eq user x) (knows xs user) (contains_knows xs user (k, omega (arith, below), is))

push_rest : (ks : List ℕ) (key user : ℕ) → user ≢ key → Contains (ks ++ key ∷ []) user → Contains ks user
push_rest ks key user differs has =
    elim (cases_lt has.0 (length ks)) [
      | inl early ↦ (has.0, early, sym (get_or_append_left ks (key ∷ []) user has.0 early) ∙ has.2)
      | inr late ↦
          let here : has.0 ≡ length ks = omega (arith, late, has.1, length-append ks (key ∷ [])) in
          absurd (differs (sym has.2 ∙ ap (λ i. get_or (ks ++ key ∷ []) i user) here ∙ get_or_at ks key [] user (length ks) refl))
    ]

push_more : (ks : List ℕ) (key user : ℕ) → Contains ks user → Contains (ks ++ key ∷ []) user
push_more ks key user has = (has.0, omega (arith, has.1, length-append ks (key ∷ [])), get_or_append_left ks (key ∷ []) user has.0 has.1 ∙ has.2)

pub insert_rest : (ks : List ℕ) (key user : ℕ) → user ≢ key → Contains (insert_key nat_eq ks key) user → Contains ks user
insert_rest ks key user differs has =
    elim (cases_Bool (list_any (nat_eq key) ks)) [
      | inl there ↦ rw there at has
      | inr new ↦ push_rest ks key user differs (rw new at has)
    ]

pub insert_more : (ks : List ℕ) (key user : ℕ) → Contains ks user → Contains (insert_key nat_eq ks key) user
insert_more ks key user has =
    elim (cases_Bool (list_any (nat_eq key) ks)) [
      | inl there ↦ rw there has
      | inr new ↦ rw new (push_more ks key user has)
    ]

both_know : {ks ls : List ℕ} (user : ℕ) → ks ≡ ls → Contains ks user ↔ Contains ls user
both_know user same = (subst (λ ks. Contains ks user) same, subst (λ ks. Contains ks user) (sym same))

-- A use came, and the cell as a user of the child.
pub added_users : (old mid new : List TreeCell) (cell child : ℕ) → AreUsersKept old mid → ((key : ℕ) → key ≢ child → users_of new key ≡ users_of mid key)
    → users_of new child ≡ insert_key nat_eq (users_of mid child) cell → HasChild (cell_at (states new) cell).uses child → AreUsersBut old new cell child
added_users old mid new cell child kept others more uses =
    record {
      others = λ key user differs. both_know user (others key differs ∙ kept key);
      rest = λ user differs. (
        (λ has. subst (λ ks. Contains ks user) (kept child) (insert_rest (users_of mid child) cell user differs (subst (λ ks. Contains ks user) more has))),
        (λ has. subst (λ ks. Contains ks user) (sym more) (insert_more (users_of mid child) cell user (subst (λ ks. Contains ks user) (sym (kept child)) has))),
      );
      own = ((λ has. uses), (λ has. subst (λ ks. Contains ks cell) (sym more) (Contains-insert_key nat_eq eqb-true (users_of mid child) cell)));
    }

-- The last use of the child went, and the cell as its user.
pub removed_users : (old mid new : List TreeCell) (cell child : ℕ) → AreUsersKept old mid → ((key : ℕ) → key ≢ child → users_of new key ≡ users_of mid key)
    → ((user : ℕ) → knows (users_of new child) user ≡ (if nat_eq cell user then false else knows (users_of mid child) user))
    → (HasChild (cell_at (states new) cell).uses child → ⊥) → AreUsersBut old new cell child
removed_users old mid new cell child kept others tells none =
    record {
      others = λ key user differs. both_know user (others key differs ∙ kept key);
      rest = λ user differs.
          let same : knows (users_of new child) user ≡ knows (users_of mid child) user =
          tells user ∙ ap (λ b. if b then false else knows (users_of mid child) user) (ne_eqb cell user (λ e. differs (sym e))) in (
            (λ has. subst (λ ks. Contains ks user) (kept child)
                (knows_contains (users_of mid child) user (sym same ∙ contains_knows (users_of new child) user has))),
            (λ has. knows_contains (users_of new child) user
                (same ∙ contains_knows (users_of mid child) user (subst (λ ks. Contains ks user) (sym (kept child)) has))),
          );
      own = (
        (λ has. absurd (both_ways _ (tells cell ∙ ap (λ b. if b then false else knows (users_of mid child) cell) (eq-eqb cell cell refl))
            (contains_knows (users_of new child) cell has))),
        (λ has. absurd (none has)),
      );
    }
