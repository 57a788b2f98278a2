-- What an index holds as uses come, and what it tells of names.
use Rattle.element_index.proofs.Common.{◌≡◌, ℕ, ◌≤◌, pos, ◌+ℤ◌, ◌*ℤ◌, ◌≤ℤ◌, ◌<ℤ◌, Bool, true, false, List, [], ◌∷◌, ◌++◌, ◌⊎◌, inl, inr, IsTrue}
use Rattle.element_index.proofs.Common.{length, refl, sym, ap, ◌∙◌, subst, arith, append-nil, slice_get, Some, None, ◌↔◌, list_any, bytes_eq}
use Rattle.element_index.proofs.Common.{flat_map-append, ints, bytes_eq-Decides, In, In-append_cases, Rect, Square, common_rect, corner_of, Covers}
use Rattle.element_index.proofs.Common.{covers_first, covers_second, covers_both, covers_is_proper, corner_covered, square_is, is_use_id, IsIndexed}
use Rattle.element_index.proofs.Common.{ROWS_OF_AN_ID, MOST_IDS, UseElements, element_ids, names_in, is_among, MeetsSome, raised, lowered, IsNameAt}
use Rattle.element_index.proofs.Common.{IsBlock}
use Rattle.std.specs.Prelude.{Option, IsSome, ◌||◌}
use Rattle.std.specs.Option.{option_to_list}
use Rattle.finite_sets.proofs.Distincts.{Distinct-push}
use Rattle.finite_sets.proofs.Members.{In-append_left, In-append_right, In-push_cases, In-push}
use Rattle.finite_sets.proofs.Searches.{list_any-passes, list_any-fails, list_any-of_In, list_any-of_absent}
use Rattle.geo_core.specs.Strips.{IsInUnion}
use Rattle.ext_model.specs.LawfulArrays.{HasIdForm}
use Rattle.element_index.specs.Holds.{IsGrown, IsSquareOf, Holds}
use Rattle.element_index.proofs.IdLaws.{there_In}
use Rattle.element_index.proofs.SquareLaws.{id_told, one_square_of, one_name_of, square_later}

-- ---- the squares of a block in the rows of an id

-- a square of the raised area is one of the area, lifted
pub covers_lowered : (area : Rect) (n : ℕ) (square : Square) → Covers (raised area n) square → Covers area (lowered square n)
covers_lowered area n square covers =
    let low : (area.ylo +ℤ pos n *ℤ ROWS_OF_AN_ID) ≤ℤ square.y = covers.above_ylo in
    let high : square.y <ℤ (area.yhi +ℤ pos n *ℤ ROWS_OF_AN_ID) = covers.below_yhi in
    record {
      right_of_xlo = covers.right_of_xlo;
      left_of_xhi = covers.left_of_xhi;
      above_ylo = omega (arith, ints);
      below_yhi = omega (arith, ints);
    }

-- a square in the rows of the id of this number
abbrev pub lifted : Square → ℕ → Square
lifted square n = record { x = square.x; y = square.y +ℤ pos n *ℤ ROWS_OF_AN_ID }

pub covers_lifted : (area : Rect) (n : ℕ) (square : Square) → Covers area square → Covers (raised area n) (lifted square n)
covers_lifted area n square covers =
    let low : area.ylo ≤ℤ square.y = covers.above_ylo in
    let high : square.y <ℤ area.yhi = covers.below_yhi in
    record {
      right_of_xlo = covers.right_of_xlo;
      left_of_xhi = covers.left_of_xhi;
      above_ylo = omega (arith, ints);
      below_yhi = omega (arith, ints);
    }

pub lowered-lifted : (square : Square) (n : ℕ) → lowered (lifted square n) n ≡ square
lowered-lifted square n = square_is (lowered (lifted square n) n) square refl (omega (arith, ints))

-- The names of a block by their squares among those of all ids.
module _ (ids names : List (List ℕ)) (id : List ℕ) (area : Rect) (number : ℕ) (there : slice_get ids number ≡ Some id)
    (block : IsBlock names id area) where
  pub block_named : (square : Square) → Covers (raised area number) square → (name : List ℕ) × (In name names × IsSquareOf ids name square)
  block_named square covers =
      let name = block.named (lowered square number) (covers_lowered area number square covers) in
      (name.0, (name.1.0, record { number = number; id = id; there = there; id_form = block.id_form; spot = name.1.1 }))

  pub block_covered : (name : List ℕ) → In name names → (square : Square) × (Covers (raised area number) square × IsSquareOf ids name square)
  block_covered name here =
      let square = block.covered name here in
      let spot : IsNameAt id name (lowered (lifted square.0 number) number) =
      subst (IsNameAt id name) (sym (lowered-lifted square.0 number)) square.1.1 in (
        lifted square.0 number,
        (
          covers_lifted area number square.0 square.1.0,
          record { number = number; id = id; there = there; id_form = block.id_form; spot = spot },
        ),
      )

-- ---- what an index holds

-- ids may come before uses that have them
pub holds_grown : (ids more : List (List ℕ)) (uses : List UseElements) (rects : List Rect) (id : List ℕ) → IsTrue (is_use_id id)
    → IsGrown ids more id → Holds ids uses rects → Holds more uses rects
holds_grown ids more uses rects id form (inl grown) holds = subst (λ (now : List (List ℕ)). Holds now uses rects) (sym grown.1) holds
holds_grown ids more uses rects id form (inr grown) holds =
    subst (λ (now : List (List ℕ)). Holds now uses rects) (sym grown.1) (record {
      once = Distinct-push ids id holds.once grown.0;
      few = subst (λ (now : List (List ℕ)). length now ≤ MOST_IDS) grown.1 grown.2;
      forms = λ one here. elim (In-push_cases one ids id here) [
        | inl old ↦ holds.forms one old
        | inr same ↦ subst (λ (text : List ℕ). IsTrue (is_use_id text)) same form
      ];
      named = λ square union.
          let name = holds.named square union in (name.0, (name.1.0, square_later ids id name.0 square name.1.1));
      covered = λ name here.
          let square = holds.covered name here in (square.0, (square.1.0, square_later ids id name square.0 square.1.1));
    })

-- the names of one use more
pub names_more : (uses : List UseElements) (used : UseElements) → names_in (uses ++ used ∷ []) ≡ names_in uses ++ element_ids used.id used.grid
names_more uses used =
    flat_map-append (λ (one : UseElements). element_ids one.id one.grid) uses (used ∷ [])
    ∙ ap (λ (more : List (List ℕ)). names_in uses ++ more) (append-nil (element_ids used.id used.grid))

-- a use more comes with its rectangle
pub holds_more : (ids : List (List ℕ)) (uses : List UseElements) (rects : List Rect) (used : UseElements) (id : List ℕ) (area : Rect) (number : ℕ)
    → slice_get ids number ≡ Some id → IsBlock (element_ids used.id used.grid) id area → Holds ids uses rects
    → Holds ids (uses ++ used ∷ []) (rects ++ raised area number ∷ [])
holds_more ids uses rects used id area number there block holds = record {
  once = holds.once;
  few = holds.few;
  forms = holds.forms;
  named = named_then;
  covered = λ name here.
      covered_then name (In-append_cases name (names_in uses) (element_ids used.id used.grid) (subst (In name) (names_more uses used) here));
}
  where
    among : (name : List ℕ) → In name (names_in uses ++ element_ids used.id used.grid) → In name (names_in (uses ++ used ∷ []))
    among name here = subst (In name) (sym (names_more uses used)) here

    named_then : (square : Square) → IsInUnion (rects ++ raised area number ∷ []) square
        → (name : List ℕ) × (In name (names_in (uses ++ used ∷ [])) × IsSquareOf ids name square)
    named_then square union = elim (In-push_cases union.0 rects (raised area number) union.1.0) [
      | inl old ↦ (
          let name = holds.named square (union.0, (old, union.1.1)) in
          (name.0, (among name.0 (In-append_left name.0 (names_in uses) (element_ids used.id used.grid) name.1.0), name.1.1)))
      | inr same ↦ (
          let covers : Covers (raised area number) square = subst (λ (rect : Rect). Covers rect square) (sym same) union.1.1 in
          let name = block_named ids (element_ids used.id used.grid) id area number there block square covers in
          (name.0, (among name.0 (In-append_right name.0 (names_in uses) (element_ids used.id used.grid) name.1.0), name.1.1)))
    ]

    covered_then : (name : List ℕ) → In name (names_in uses) ⊎ In name (element_ids used.id used.grid)
        → (square : Square) × (IsInUnion (rects ++ raised area number ∷ []) square × IsSquareOf ids name square)
    covered_then name (inl old) =
        let square = holds.covered name old in
        (square.0, ((square.1.0.0, (In-append_left square.1.0.0 rects (raised area number ∷ []) square.1.0.1.0, square.1.0.1.1)), square.1.1))
    covered_then name (inr new) =
        let square = block_covered ids (element_ids used.id used.grid) id area number there block name new in
        (square.0, ((raised area number, (In-push rects (raised area number), square.1.0)), square.1.1))

-- rectangles that cover the same squares hold the same
pub holds_same : (ids : List (List ℕ)) (uses : List UseElements) (rects others : List Rect)
    → ((square : Square) → IsInUnion rects square → IsInUnion others square) → ((square : Square) → IsInUnion others square → IsInUnion rects square)
    → Holds ids uses rects → Holds ids uses others
holds_same ids uses rects others there back holds = record {
  once = holds.once;
  few = holds.few;
  forms = holds.forms;
  named = λ square union. holds.named square (back square union);
  covered = λ name here. let square = holds.covered name here in (square.0, (there square.0 square.1.0, square.1.1));
}

-- lists that are equal with one thing more are equal
same_front : {X : Type 0} (xs ys : List X) (x y : X) → xs ++ x ∷ [] ≡ ys ++ y ∷ [] → xs ≡ ys
same_front [] [] x y same = refl
same_front [] (b ∷ []) x y same = absurd (cc)
same_front [] (b ∷ c ∷ ys) x y same = absurd (cc)
same_front (a ∷ []) [] x y same = absurd (cc)
same_front (a ∷ b ∷ xs) [] x y same = absurd (cc)
same_front {X} (a ∷ xs) (b ∷ ys) x y same =
    let first : a ≡ b = cc in
    let rest : xs ++ x ∷ [] ≡ ys ++ y ∷ [] = cc in
    ap (λ (head : X). head ∷ xs) first ∙ ap (λ (tail : List X). b ∷ tail) (same_front xs ys x y rest)

-- what is put at the end of a list and taken from it again leaves the list
pub popped : {X : Type 0} (xs ys : List X) (x : X) (last : Option X) → IsSome last → xs ++ x ∷ [] ≡ ys ++ option_to_list last → ys ≡ xs
popped xs ys x (Some y) some same = sym (same_front xs ys x y same)
popped xs ys x None none same = absurd (cc)

-- ---- what an index tells

-- Some name stands in both lists.
pub record Share (names others : List (List ℕ)) : Type 0 where
  pub name : List ℕ
  pub here : In name names
  pub there : In name others

-- where a name is shared, one of the list is among the others
pub shared-any : (names others : List (List ℕ)) → Share names others → list_any (λ name. is_among name others) names ≡ true
shared-any names others share =
    list_any-passes (λ name. is_among name others) names share.name share.here
    (list_any-of_In bytes_eq bytes_eq-Decides share.name others share.there)

-- where none is shared, none is
pub unshared-any : (names others : List (List ℕ)) → (Share names others → ⊥) → list_any (λ name. is_among name others) names ≡ false
unshared-any names others none =
    list_any-fails (λ name. is_among name others) names
    (λ name here. list_any-of_absent bytes_eq bytes_eq-Decides name others (λ there. none (record { name = name; here = here; there = there })))

module _ (ids : List (List ℕ)) (uses : List UseElements) (rects : List Rect) (holds : Holds ids uses rects) where
  -- a square of both tells a name of both
  pub share_from_square : (names : List (List ℕ)) (id : List ℕ) (area : Rect) (number : ℕ) (square : Square) → slice_get ids number ≡ Some id
      → IsBlock names id area → IsInUnion rects square → Covers (raised area number) square → Share names (names_in uses)
  share_from_square names id area number square there block union covers =
      let mine = block_named ids names id area number there block square covers in
      let theirs = holds.named square union in
      let same : theirs.0 ≡ mine.0 = one_name_of ids theirs.0 mine.0 square theirs.1.1 mine.1.1 in
      record { name = mine.0; here = mine.1.0; there = subst (λ (name : List ℕ). In name (names_in uses)) same theirs.1.0 }

  -- where a rectangle meets the block, a name is shared
  pub share_from_meeting : (names : List (List ℕ)) (id : List ℕ) (area : Rect) (number : ℕ) → slice_get ids number ≡ Some id
      → IsBlock names id area → MeetsSome rects (raised area number) → Share names (names_in uses)
  share_from_meeting names id area number there block (rect, meeting) =
      let common = common_rect rect (raised area number) in
      let corner = corner_covered common meeting.meets in
      share_from_square names id area number (corner_of common) there block
      (rect, (meeting.there, covers_first rect (raised area number) (corner_of common) corner))
      (covers_second rect (raised area number) (corner_of common) corner)

  -- and the other way round
  pub meeting_from_share : (names : List (List ℕ)) (id : List ℕ) (area : Rect) (number : ℕ) → slice_get ids number ≡ Some id
      → IsBlock names id area → Share names (names_in uses) → MeetsSome rects (raised area number)
  meeting_from_share names id area number there block share =
      let mine = block_covered ids names id area number there block share.name share.here in
      let theirs = holds.covered share.name share.there in
      let same : mine.0 ≡ theirs.0 = one_square_of ids share.name mine.0 theirs.0 holds.once mine.1.1 theirs.1.1 in
      let covers : Covers (raised area number) theirs.0 = subst (Covers (raised area number)) same mine.1.0 in
      let rect = theirs.1.0.0 in (
        rect,
        record {
          there = theirs.1.0.1.0;
          meets = covers_is_proper (common_rect rect (raised area number)) theirs.0
              (covers_both rect (raised area number) theirs.0 theirs.1.0.1.1 covers);
        },
      )

  -- no name of an unknown id is shared
  pub unknown_shares_none : (names : List (List ℕ)) (id : List ℕ) (area : Rect) → (In id ids → ⊥) → IsBlock names id area
      → Share names (names_in uses) → ⊥
  unknown_shares_none names id area unknown block share =
      let mine = block.covered share.name share.here in
      let theirs = (holds.covered share.name share.there).1.1 in
      let square = (holds.covered share.name share.there).0 in
      let same : theirs.id ≡ id =
      id_told theirs.id share.name (lowered square theirs.number) theirs.id_form theirs.spot
      ∙ sym (id_told id share.name mine.0 block.id_form mine.1.1) in
      unknown (subst (λ (one : List ℕ). In one ids) same (there_In ids theirs.id theirs.number theirs.there))

  -- each name that is known has its form
  pub known_form : (name : List ℕ) → In name (names_in uses) → IsTrue (is_use_id name) ⊎ IsIndexed name
  known_form name here =
      let square = holds.covered name here in
      let at = square.1.1 in
      elim at.spot [
        | inl indexed ↦ inr (record {
          id = at.id;
          i = (lowered square.0 at.number).x;
          j = (lowered square.0 at.number).y;
          id_form = at.id_form;
          i_fits = indexed.i_fits;
          j_fits = indexed.j_fits;
          text = indexed.text;
        })
        | inr whole ↦ inl (subst (λ (text : List ℕ). IsTrue (is_use_id text)) (sym whole.text) at.id_form)
      ]

  -- so whether a rectangle meets the block tells whether a name is shared
  pub meeting_tells : (names : List (List ℕ)) (id : List ℕ) (area : Rect) (number : ℕ) (meets : Bool) → slice_get ids number ≡ Some id
      → IsBlock names id area → IsTrue meets ↔ MeetsSome rects (raised area number)
      → meets ≡ list_any (λ name. is_among name (names_in uses)) names
  meeting_tells names id area number true there block told =
      sym (shared-any names (names_in uses) (share_from_meeting names id area number there block (told.0 refl)))
  meeting_tells names id area number false there block told =
      sym (unshared-any names (names_in uses) (λ share. (let met = told.1 (meeting_from_share names id area number there block share) in cc)))

  -- and names of an unknown id are not among those that are given
  pub unknown_tells : (names : List (List ℕ)) (id : List ℕ) (area : Rect) → (In id ids → ⊥) → IsBlock names id area
      → list_any (λ name. is_among name (names_in uses)) names ≡ false
  unknown_tells names id area unknown block = unshared-any names (names_in uses) (unknown_shares_none names id area unknown block)

  -- nor is a name of neither form
  pub formless_tells : (name : List ℕ) → (HasIdForm None name → ⊥) → is_among name (names_in uses) ≡ false
  formless_tells name formless = list_any-of_absent bytes_eq bytes_eq-Decides name (names_in uses) (λ here. formless (known_form name here))

-- one name is among those where some of the list of it is
pub one-any : (name : List ℕ) (others : List (List ℕ)) → list_any (λ one. is_among one others) (name ∷ []) ≡ is_among name others
one-any name others = or_false (is_among name others)
  where
    or_false : (b : Bool) → (b || false) ≡ b
    or_false true = refl
    or_false false = refl
