-- Cells that are put behind those that were there.
use Rattle.cell_tree.proofs.Common.{◌≡◌, inl, inr, ℕ, zero, suc, ◌<◌, ◌≤◌, List, [], ◌∷◌, ◌++◌, length, map, slice_get, Some, None, refl, sym, ap}
use Rattle.cell_tree.proofs.Common.{subst, ◌∙◌, arith, Contains, option_map_or, cases_eq, cases_lt, length-append, slice_get_within, slice_get_past}
use Rattle.cell_tree.proofs.Common.{In, slice_get-push_cases, slice_get-append_left, slice_get-append_front, slice_get-push_new, TreeCell, UseBody}
use Rattle.cell_tree.proofs.Common.{HasIdAt, CellState, state_of, states, users_of, Uses, KnowUsers, IsUserOf, AreBehind, HaveOwnIds}
use Rattle.std.proofs.lemmas.List.{append-nil, append_assoc, map_push}
use Rattle.cell_tree.specs.Arrivals.{IsKeptAs}
use Rattle.cell_tree.proofs.FindLaws.{length-states}

stands_later : (xs ys : List (List ℕ × UseBody)) (x : List ℕ × UseBody) → In x.0 (map (λ entry. entry.0) (xs ++ x ∷ ys))
stands_later [] ys x = inl refl
stands_later (z ∷ xs) ys x = inr (stands_later xs ys x)

-- an id that comes later stands nowhere before
pub id_is_new : (xs ys : List (List ℕ × UseBody)) (x : List ℕ × UseBody) → HaveOwnIds (xs ++ x ∷ ys) → (k : ℕ) → HasIdAt xs k x.0 → ⊥
id_is_new [] ys x ids k has = absurd (let e : None ≡ Some has.entry = has.stands in cc)
id_is_new (z ∷ xs) ys x ids zero has =
    let e : Some z ≡ Some has.entry = has.stands in
    let s : z ≡ has.entry = cc in
    let same : z.0 ≡ x.0 = ap (λ (e : List ℕ × UseBody). e.0) s ∙ has.same in
    ids.0 (subst (λ id. In id (map (λ entry. entry.0) (xs ++ x ∷ ys))) (sym same) (stands_later xs ys x))
id_is_new (z ∷ xs) ys x ids (suc k) has = id_is_new xs ys x ids.1 k (record { entry = has.entry; stands = has.stands; same = has.same })

-- nothing is behind yet
pub behind_none : (cells : List TreeCell) → KnowUsers cells → AreBehind cells cells
behind_none cells users =
    record {
      more = [];
      is = sym (append-nil (states cells));
      users = record {
        known = λ key user low uses. users.known key user uses;
        uses = λ key user has. users.none key user has;
        before = λ key user has. let uses = users.none key user has in
            omega (arith, slice_get_within (states cells) user uses.cell uses.is, length-states cells);
      };
    }

module _ (old now : List TreeCell) (kept : TreeCell) (cell : CellState) (behind : AreBehind old now) (is : IsKeptAs kept cell) where
  are : states (now ++ kept ∷ []) ≡ states now ++ cell ∷ []
  are = map_push state_of now kept ∙ ap (λ c. states now ++ c ∷ []) is.state

  long : length old ≤ length now
  long = omega (arith, ap length behind.is, length-append (states old) behind.more, length-states old, length-states now)

  no_users : (cells : List TreeCell) (key user : ℕ) → length cells ≤ key → IsUserOf cells key user → ⊥
  no_users cells key user past has =
      let none = subst (λ ks. Contains ks user) (ap (λ o. option_map_or (λ (c : TreeCell). c.users.keys) o []) (slice_get_past cells key past)) has in
      omega (arith, none.1)

  old_user : (key user : ℕ) → IsUserOf (now ++ kept ∷ []) key user → IsUserOf now key user
  old_user key user has =
      elim (cases_lt key (length now)) [
        | inl before ↦ subst (λ ks. Contains ks user)
            (ap (λ o. option_map_or (λ (c : TreeCell). c.users.keys) o []) (slice_get-append_front now (kept ∷ []) key before)) has
        | inr after ↦ absurd (elim (cases_eq key (length now)) [
          | inl here ↦
              let none = subst (λ ks. Contains ks user)
              (ap (users_of (now ++ kept ∷ [])) here ∙ ap (λ o. option_map_or (λ (c : TreeCell). c.users.keys) o []) (slice_get-push_new now kept)
              ∙ is.unused) has in
              omega (arith, none.1)
          | inr beyond ↦ no_users (now ++ kept ∷ []) key user (omega (arith, after, beyond, length-append now (kept ∷ []))) has
        ])
      ]

  new_user : (key user : ℕ) → IsUserOf now key user → IsUserOf (now ++ kept ∷ []) key user
  new_user key user has =
      elim (cases_lt key (length now)) [
        | inl before ↦ subst (λ ks. Contains ks user)
            (sym (ap (λ o. option_map_or (λ (c : TreeCell). c.users.keys) o []) (slice_get-append_front now (kept ∷ []) key before))) has
        | inr after ↦ absurd (no_users now key user (omega (arith, after)) has)
      ]

  old_uses : (user key : ℕ) → user < length old → Uses (states (now ++ kept ∷ [])) user key → Uses (states now) user key
  old_uses user key low uses =
      elim (slice_get-push_cases (states now) cell uses.cell user (sym (ap (λ s. slice_get s user) are) ∙ uses.is)) [
        | inl before ↦ record { cell = uses.cell; is = before; k = uses.k; entry = uses.entry; stands = uses.stands; child = uses.child }
        | inr here ↦ absurd (omega (arith, here.0, low, long, length-states now))
      ]

  new_uses : (user key : ℕ) → Uses (states now) user key → Uses (states (now ++ kept ∷ [])) user key
  new_uses user key uses =
      record {
        cell = uses.cell;
        is = ap (λ s. slice_get s user) are ∙ slice_get-append_left (states now) (cell ∷ []) user uses.cell uses.is;
        k = uses.k;
        entry = uses.entry;
        stands = uses.stands;
        child = uses.child;
      }

  -- one more cell is
  pub behind_next : AreBehind old (now ++ kept ∷ [])
  behind_next =
      record {
        more = behind.more ++ cell ∷ [];
        is = are ∙ ap (λ (s : List CellState). s ++ cell ∷ []) behind.is ∙ append_assoc (states old) behind.more (cell ∷ []);
        users = record {
          known = λ key user low uses. new_user key user (behind.users.known key user low (old_uses user key low uses));
          uses = λ key user has. new_uses user key (behind.users.uses key user (old_user key user has));
          before = λ key user has. behind.users.before key user (old_user key user has);
        };
      }

  -- what was to come and what has
  pub come_next : (rest all : List CellState) → states now ++ cell ∷ rest ≡ all → states (now ++ kept ∷ []) ++ rest ≡ all
  come_next rest all come = ap (λ (s : List CellState). s ++ rest) are ∙ append_assoc (states now) (cell ∷ []) rest ∙ come
