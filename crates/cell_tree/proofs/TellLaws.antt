-- The users that cells know, while those that come are told to their children or forgotten.
use Rattle.cell_tree.proofs.Common.{◌≡◌, ◌≢◌, ◌⊎◌, ◌↔◌, inl, inr, ℕ, suc, ◌+◌, ◌<◌, ◌≤◌, false, List, length, slice_get, Some, refl, sym, ap, subst}
use Rattle.cell_tree.proofs.Common.{◌∙◌, arith, Contains, nat_eq, if◌then◌else◌, cases_eq, cases_lt, eqb-true, eq-eqb, ne_eqb, both_ways, same_Some}
use Rattle.cell_tree.proofs.Common.{slice_get_within, insert_key, TreeCell, UseBody, CellState, states, users_of, Uses, IsUserOf, cell_at}
use Rattle.cell_tree.proofs.Common.{AreLawfulCells, AreUsersKept, knows, KnowUsersTo}
use Rattle.indexmap.proofs.CallerLemmas.{Contains-insert_key}
use Rattle.cell_tree.specs.Arrivals.{AreForgotten, ChildIs, KnowUsersFrom}
use Rattle.cell_tree.proofs.FindLaws.{length-states}
use Rattle.cell_tree.proofs.UserLaws.{knows_contains, contains_knows, insert_rest, insert_more}
use Rattle.cell_tree.proofs.WholeLaws.{cell_is}

-- The cell's uses are told to their children before a place.
pub record AreTold (old new : List TreeCell) (cell place : ℕ) : Type 0 where
  pub same : states new ≡ states old
  pub still : (key user : ℕ) → IsUserOf old key user → IsUserOf new key user
  pub only : (key user : ℕ) → IsUserOf new key user → IsUserOf old key user ⊎ ((user ≡ cell) × Uses (states old) cell key)
  pub told : (k : ℕ) (entry : List ℕ × UseBody) → k < place → slice_get (cell_at (states old) cell).uses k ≡ Some entry → IsUserOf new entry.1.child.0 cell

-- Of the users from the first on those before this one are forgotten, and the others are as they were.
pub record AreForgottenTo (old new : List TreeCell) (first end : ℕ) : Type 0 where
  pub same : states new ≡ states old
  pub known : (key user : ℕ) → user < first → IsUserOf new key user ↔ IsUserOf old key user
  pub gone : (key user : ℕ) → first ≤ user → user < end → IsUserOf new key user → ⊥
  pub only : (key user : ℕ) → IsUserOf new key user → IsUserOf old key user

-- the use that was looked at is one of the cell
child_used : (cells : List CellState) (cell k child : ℕ) → cell < length cells → ChildIs cells cell k child → Uses cells cell child
child_used cells cell k child within is =
    record { cell = cell_at cells cell; is = cell_is cells cell within; k = k; entry = is.entry; stands = is.stands; child = is.is }

-- and its child is one of the cells
pub child_within : (cells : List TreeCell) (all : List CellState) (cell k child : ℕ) → AreLawfulCells all → states cells ≡ all → cell < length cells
    → ChildIs (states cells) cell k child → child < length cells
child_within cells all cell k child lawful same within is =
    let inside : cell < length (states cells) = omega (arith, within, length-states cells) in
    let lawful' : AreLawfulCells (states cells) = subst AreLawfulCells (sym same) lawful in
    let low = (lawful'.uses cell (cell_at (states cells) cell) (cell_is (states cells) cell inside) k is.entry is.stands).1 in
    subst (λ c. c < length cells) is.is (omega (arith, low, length-states cells))

-- the uses that a cell has
own_use : (cells : List CellState) (cell key : ℕ) → Uses cells cell key
    → (k : ℕ) × (entry : List ℕ × UseBody) × (slice_get (cell_at cells cell).uses k ≡ Some entry) × (entry.1.child.0 ≡ key)
own_use cells cell key uses =
    let same : uses.cell ≡ cell_at cells cell =
    same_Some uses.cell (cell_at cells cell) (sym uses.is ∙ cell_is cells cell (slice_get_within cells cell uses.cell uses.is)) in
    (uses.k, uses.entry, ap (λ (c : CellState). slice_get c.uses uses.k) (sym same) ∙ uses.stands, uses.child)

place_within : (uses : List (List ℕ × UseBody)) (k : ℕ) (entry : List ℕ × UseBody) → slice_get uses k ≡ Some entry → k < length uses
place_within uses k entry is = slice_get_within uses k entry is

module _ (first now mid new : List TreeCell) (cell k child : ℕ) (within : cell < length first) (told : AreTold first now cell k)
    (is : ChildIs (states now) cell k child)
    (mid_states : states mid ≡ states now) (mid_users : AreUsersKept now mid) (new_states : states new ≡ states mid)
    (others : (key : ℕ) → key ≢ child → users_of new key ≡ users_of mid key) (users : users_of new child ≡ insert_key nat_eq (users_of mid child) cell) where
  was : ChildIs (states first) cell k child
  was = subst (λ cs. ChildIs cs cell k child) told.same is

  used : Uses (states first) cell child
  used = child_used (states first) cell k child (omega (arith, within, length-states first)) was

  more : (key user : ℕ) → IsUserOf now key user → IsUserOf new key user
  more key user has =
      elim (cases_eq key child) [
        | inl here ↦
            subst (λ c. IsUserOf new c user) (sym here)
            (subst (λ ks. Contains ks user) (sym users)
            (insert_more (users_of mid child) cell user
            (subst (λ ks. Contains ks user) (sym (mid_users child)) (subst (λ c. IsUserOf now c user) here has))))
        | inr apart ↦ subst (λ ks. Contains ks user) (sym (others key apart ∙ mid_users key)) has
      ]

  source : (key user : ℕ) → IsUserOf new key user → IsUserOf now key user ⊎ ((user ≡ cell) × (key ≡ child))
  source key user has =
      elim (cases_eq key child) [
        | inr apart ↦ inl (subst (λ ks. Contains ks user) (others key apart ∙ mid_users key) has)
        | inl here ↦ elim (cases_eq user cell) [
          | inl is_own ↦ inr (is_own, here)
          | inr differs ↦
              inl (subst (λ c. IsUserOf now c user) (sym here) (subst (λ ks. Contains ks user) (mid_users child)
              (insert_rest (users_of mid child) cell user differs (subst (λ ks. Contains ks user) users (subst (λ c. IsUserOf new c user) here has)))))
        ]
      ]

  -- one more child is told
  pub told_next : AreTold first new cell (k + 1)
  told_next =
      record {
        same = new_states ∙ mid_states ∙ told.same;
        still = λ key user has. more key user (told.still key user has);
        only = λ key user has. elim (source key user has) [
          | inl before ↦ told.only key user before
          | inr here ↦ inr (here.0, subst (Uses (states first) cell) (sym here.1) used)
        ];
        told = λ j entry low stands. elim (cases_eq j k) [
          | inr early ↦ more entry.1.child.0 cell (told.told j entry (omega (arith, low, early)) stands)
          | inl here ↦
              let same : was.entry ≡ entry = same_Some was.entry entry
              (sym was.stands ∙ sym (ap (slice_get (cell_at (states first) cell).uses) here) ∙ stands) in
              let at_child : child ≡ entry.1.child.0 = sym was.is ∙ ap (λ (e : List ℕ × UseBody). e.1.child.0) same in
              subst (λ c. IsUserOf new c cell) at_child
              (subst (λ ks. Contains ks cell) (sym users) (Contains-insert_key nat_eq eqb-true (users_of mid child) cell))
        ];
      }

module _ (first now : List TreeCell) (cell k : ℕ) (told : AreTold first now cell k) (users : KnowUsersTo first cell) where
  same_uses : (user key : ℕ) → Uses (states now) user key → Uses (states first) user key
  same_uses user key uses = subst (λ cs. Uses cs user key) told.same uses

  only_uses : (key user : ℕ) → IsUserOf now key user → Uses (states now) user key
  only_uses key user has =
      subst (λ cs. Uses cs user key) (sym told.same) (elim (told.only key user has) [
        | inl before ↦ users.uses key user before
        | inr here ↦ subst (λ u. Uses (states first) u key) (sym here.0) here.1
      ])

  -- what is known where the telling stops
  pub told_part : KnowUsersFrom now cell
  told_part =
      record {
        known = λ key user low uses. told.still key user (users.known key user low (same_uses user key uses));
        uses = only_uses;
      }

  -- and where it ends
  pub told_all : length (cell_at (states first) cell).uses ≤ k → KnowUsersTo now (suc cell)
  told_all long =
      record {
        known = λ key user low uses. elim (cases_eq user cell) [
          | inr differs ↦ told.still key user (users.known key user (omega (arith, low, differs)) (same_uses user key uses))
          | inl is_own ↦
              let own = own_use (states first) cell key (subst (λ u. Uses (states first) u key) is_own (same_uses user key uses)) in
              subst (λ u. IsUserOf now key u) (sym is_own) (subst (λ c. IsUserOf now c cell) own.3
              (told.told own.0 own.1 (omega (arith, place_within (cell_at (states first) cell).uses own.0 own.1 own.2, long)) own.2))
        ];
        uses = only_uses;
        before = λ key user has. elim (told.only key user has) [
          | inl before ↦ omega (arith, users.before key user before)
          | inr here ↦ omega (arith, here.0)
        ];
      }

-- and stays where the users are kept
pub part_kept : (cells new : List TreeCell) (first : ℕ) → states new ≡ states cells → AreUsersKept cells new → KnowUsersFrom cells first
    → KnowUsersFrom new first
part_kept cells new first same kept part =
    record {
      known = λ key user low uses. subst (λ ks. Contains ks user) (sym (kept key)) (part.known key user low (subst (λ cs. Uses cs user key) same uses));
      uses = λ key user has. subst (λ cs. Uses cs user key) (sym same) (part.uses key user (subst (λ ks. Contains ks user) (kept key) has));
    }

module _ (first now new : List TreeCell) (cell k child : ℕ) (gone : AreForgotten first now cell k) (is : ChildIs (states now) cell k child)
    (new_states : states new ≡ states now) (others : (key : ℕ) → key ≢ child → users_of new key ≡ users_of now key)
    (tells : (user : ℕ) → knows (users_of new child) user ≡ (if nat_eq cell user then false else knows (users_of now child) user)) where
  rest : (user : ℕ) → user ≢ cell → knows (users_of new child) user ≡ knows (users_of now child) user
  rest user differs = tells user ∙ ap (λ b. if b then false else knows (users_of now child) user) (ne_eqb cell user (λ e. differs (sym e)))

  child_users : (user : ℕ) → user ≢ cell → IsUserOf new child user ↔ IsUserOf now child user
  child_users user differs = (
    (λ has. knows_contains (users_of now child) user (sym (rest user differs) ∙ contains_knows (users_of new child) user has)),
    (λ has. knows_contains (users_of new child) user (rest user differs ∙ contains_knows (users_of now child) user has)),
  )

  other_users : (key user : ℕ) → user ≢ cell → IsUserOf new key user ↔ IsUserOf now key user
  other_users key user differs =
      elim (cases_eq key child) [
        | inl here ↦ subst (λ c. IsUserOf new c user ↔ IsUserOf now c user) (sym here) (child_users user differs)
        | inr apart ↦ ((λ has. subst (λ ks. Contains ks user) (others key apart) has), (λ has. subst (λ ks. Contains ks user) (sym (others key apart)) has))
      ]

  not_there : IsUserOf new child cell → ⊥
  not_there has = both_ways _ (tells cell ∙ ap (λ b. if b then false else knows (users_of now child) cell) (eq-eqb cell cell refl))
      (contains_knows (users_of new child) cell has)

  less : (key : ℕ) → IsUserOf new key cell → IsUserOf now key cell
  less key has =
      elim (cases_eq key child) [
        | inl here ↦ absurd (not_there (subst (λ c. IsUserOf new c cell) here has))
        | inr apart ↦ subst (λ ks. Contains ks cell) (others key apart) has
      ]

  -- one more child forgets
  pub forgotten_next : AreForgotten first new cell (k + 1)
  forgotten_next =
      record {
        same = new_states ∙ gone.same;
        others = λ key user differs.
            let a = other_users key user differs in let b = gone.others key user differs in ((λ has. b.0 (a.0 has)), (λ has. a.1 (b.1 has)));
        only = λ key has. gone.only key (less key has);
        gone = λ j entry low stands has. elim (cases_eq j k) [
          | inr early ↦ gone.gone j entry (omega (arith, low, early)) stands (less entry.1.child.0 has)
          | inl here ↦
              let was : ChildIs (states first) cell k child = subst (λ cs. ChildIs cs cell k child) gone.same is in
              let same : was.entry ≡ entry = same_Some was.entry entry
              (sym was.stands ∙ sym (ap (slice_get (cell_at (states first) cell).uses) here) ∙ stands) in
              let at_child : entry.1.child.0 ≡ child = sym (sym was.is ∙ ap (λ (e : List ℕ × UseBody). e.1.child.0) same) in
              not_there (subst (λ c. IsUserOf new c cell) at_child has)
        ];
      }

-- one more user is forgotten
pub forgotten_more : (cells now new : List TreeCell) (first cell : ℕ) → first ≤ cell → KnowUsersFrom cells first → AreForgottenTo cells now first cell
    → AreForgotten now new cell (length (cell_at (states now) cell).uses) → AreForgottenTo cells new first (cell + 1)
forgotten_more cells now new first cell high users gone one =
    record {
      same = one.same ∙ gone.same;
      known = λ key user low.
          let a = one.others key user (λ same. omega (arith, same, low, high)) in let b = gone.known key user low in
          ((λ has. b.0 (a.0 has)), (λ has. a.1 (b.1 has)));
      gone = λ key user late low has. elim (cases_eq user cell) [
        | inr differs ↦ gone.gone key user late (omega (arith, low, differs)) ((one.others key user differs).0 has)
        | inl is_own ↦
            let has' : IsUserOf new key cell = subst (λ u. IsUserOf new key u) is_own has in
            let uses : Uses (states now) cell key = subst (λ cs. Uses cs cell key) (sym gone.same)
            (users.uses key cell (gone.only key cell (one.only key has'))) in
            let own = own_use (states now) cell key uses in
            one.gone own.0 own.1 (place_within (cell_at (states now) cell).uses own.0 own.1 own.2) own.2 (subst (λ c. IsUserOf new c cell) (sym own.3) has')
      ];
      only = λ key user has. elim (cases_eq user cell) [
        | inr differs ↦ gone.only key user ((one.others key user differs).0 has)
        | inl is_own ↦ subst (λ u. IsUserOf cells key u) (sym is_own) (gone.only key cell (one.only key (subst (λ u. IsUserOf new key u) is_own has)))
      ];
    }

-- At the end only the users before the first are known.
pub forgotten_all : (cells new : List TreeCell) (first end : ℕ) → length cells ≤ end → KnowUsersFrom cells first → AreForgottenTo cells new first end
    → KnowUsersTo new first
forgotten_all cells new first end long users gone =
    record {
      known = λ key user low uses. (gone.known key user low).1 (users.known key user low (subst (λ cs. Uses cs user key) gone.same uses));
      uses = λ key user has. subst (λ cs. Uses cs user key) (sym gone.same) (users.uses key user (gone.only key user has));
      before = λ key user has. elim (cases_lt user first) [
        | inl low ↦ low
        | inr late ↦
            let uses = users.uses key user (gone.only key user has) in
            absurd (gone.gone key user (omega (arith, late))
            (omega (arith, slice_get_within (states cells) user uses.cell uses.is, length-states cells, long)) has)
      ];
    }
