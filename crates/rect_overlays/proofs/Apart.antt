-- Regions whose members lie apart are made stacks, one for each member.
use Rattle.rect_overlays.proofs.Common.{◌≡◌, inl, inr, ℕ, ◌<◌, false, List, [], ◌∷◌, ◌++◌, get_or, map, refl, sym, ◌∙◌, ap, subst, AllPairs, In}
use Rattle.rect_overlays.proofs.Common.{In-append_left, In-push, In-push_cases, Pairwise, AllPairs-from_Pairwise, Pairwise-from_AllPairs}
use Rattle.rect_overlays.proofs.Common.{AllPairs-push, Square, Rect, common_rect, AreDisjoint, Covers, IsProper, IsProper-has_square, covers_first}
use Rattle.rect_overlays.proofs.Common.{covers_second, covers_both, rect_at, Stack, Region, meets_at, IsRegion, AreApart, IsSplit, CoversAt}
use Rattle.std.specs.List.{list_any}
use Rattle.geo_core.proofs.FiniteSets.Members.{In-append_right, In-append_cases, In-map, In-map_source, In-some}
use Rattle.geo_core.proofs.FiniteSets.Pairs.{Pairwise-append, Pairwise-map, Pairwise-unmap}
use Rattle.geo_core.proofs.FiniteSets.Searches.{list_any-In}
use Rattle.rect_overlays.specs.steps.Singles.{single_of, contents_of}
use Rattle.rect_overlays.specs.Stacks.{IsStack}
use Rattle.rect_overlays.proofs.Lists.{AllPairs-front}
use Rattle.rect_overlays.proofs.Parts.{square_meets, rect_at_covers, covered_at}
use Rattle.rect_overlays.proofs.Splitting.{last_is_region}

-- one more index lies apart from those before it, if none of these has a square in its rectangle
pub apart_more : (rects : List Rect) (indices : List ℕ) (index : ℕ) → AreApart rects indices
    → list_any (meets_at rects (rect_at rects index)) indices ≡ false → AreApart rects (indices ++ index ∷ [])
apart_more rects indices index apart none =
    AllPairs-push (λ (a b : ℕ). AreDisjoint (rect_at rects a) (rect_at rects b)) indices index apart
    (λ other i square c d.
    let fails : meets_at rects (rect_at rects index) other ≡ false = list_any-In (meets_at rects (rect_at rects index)) indices other none i in
    let met = square_meets (rect_at rects index) (rect_at rects other) square c d in
    absurd (cc))

-- of indices whose rectangles lie apart no more than one covers a square
one_covers : (rects : List Rect) (indices : List ℕ) (a b : ℕ) (square : Square)
    → Pairwise (λ i j. AreDisjoint (rect_at rects i) (rect_at rects j)) indices → In a indices → In b indices → Covers (rect_at rects a) square
    → Covers (rect_at rects b) square → a ≡ b
one_covers rects [] a b square pairs i j c d = absurd i
one_covers rects (index ∷ rest) a b square pairs (inl e) (inl f) c d = sym e ∙ f
one_covers rects (index ∷ rest) a b square pairs (inl e) (inr j) c d =
    absurd (pairs.0 b j square (subst (λ (k : ℕ). Covers (rect_at rects k) square) (sym e) c) d)
one_covers rects (index ∷ rest) a b square pairs (inr i) (inl f) c d =
    absurd (pairs.0 a i square (subst (λ (k : ℕ). Covers (rect_at rects k) square) (sym f) d) c)
one_covers rects (index ∷ rest) a b square pairs (inr i) (inr j) c d = one_covers rects rest a b square pairs.1 i j c d

-- what the rectangle of a member has of a region in which the members lie apart is a stack
single_is_stack : (rects : List Rect) (region : Region) (member : ℕ) (stack : Stack) → IsRegion rects region
    → AreApart rects region.members → In member region.members → single_of rects region.area member ≡ contents_of stack → IsStack rects stack
single_is_stack rects region member stack is apart i same =
    let rect = rect_at rects member in
    let common = common_rect rect region.area in
    let area : common ≡ stack.area = ap (λ (r : Region). r.area) same in
    let members : member ∷ [] ≡ stack.members.items = ap (λ (r : Region). r.members) same in
    let pairs = Pairwise-from_AllPairs (λ a b. AreDisjoint (rect_at rects a) (rect_at rects b)) region.members apart in
    let only : (index : ℕ) → member ≡ index → In index stack.members.items = λ index e. subst (In index) members (inl e) in
    let here : (square : Square) → Covers stack.area square → Covers common square = λ square c. subst (λ (r : Rect). Covers r square) (sym area) c in
    record {
      proper = subst IsProper area (IsProper-has_square common (is.meet member i));
      some = In-some member stack.members.items (only member refl);
      members = λ index j square c. elim (subst (In index) (sym members) j) [
        | inl e ↦ subst (λ (k : ℕ). CoversAt rects k square) e (covered_at rects member square (is.knows.each member i)
            (covers_first rect region.area square (here square c)))
        | inr none ↦ absurd none
      ];
      ordered = subst (AllPairs ◌<◌) members (AllPairs-from_Pairwise ◌<◌ (member ∷ []) ((λ other none. absurd none), tt));
      others = λ index square c at. only index (one_covers rects region.members member index square pairs i
          (is.knows.every index square at (covers_second rect region.area square (here square c)))
          (covers_first rect region.area square (here square c)) (rect_at_covers rects index square at));
    }

module _ (rects : List Rect) (rest : List Region) (region : Region) (stacks : List Stack)
    (split : IsSplit rects (rest ++ region ∷ []) stacks) (apart : AreApart rects region.members)
    (singles : List Stack) (are : map contents_of singles ≡ map (single_of rects region.area) region.members) where
  is : IsRegion rects region
  is = last_is_region rects rest region stacks split

  -- each of the stacks is that of a member
  source : (stack : Stack) → In stack singles → (member : ℕ) × (In member region.members × (single_of rects region.area member ≡ contents_of stack))
  source stack i = In-map_source (single_of rects region.area) (contents_of stack) region.members
      (subst (In (contents_of stack)) are (In-map contents_of stack singles i))

  inside : (stack : Stack) → In stack singles → (square : Square) → Covers stack.area square → Covers region.area square
  inside stack i square c =
      let found = source stack i in
      covers_second (rect_at rects found.0) region.area square (subst (λ (r : Region). Covers r.area square) (sym found.1.1) c)

  -- they lie apart from each other
  singles_apart : Pairwise (λ (a b : Stack). AreDisjoint a.area b.area) singles
  singles_apart =
      let part : ℕ → Region = single_of rects region.area in
      let parts : AllPairs (λ a b. AreDisjoint (part a).area (part b).area) region.members =
      λ i j d less below square c e. apart i j d less below square (covers_first (rect_at rects (get_or region.members i d)) region.area square c)
      (covers_first (rect_at rects (get_or region.members j d)) region.area square e) in
      Pairwise-unmap contents_of (λ (a b : Region). AreDisjoint a.area b.area) singles
      (subst (Pairwise (λ (a b : Region). AreDisjoint a.area b.area)) (sym are) (Pairwise-map part (λ (a b : Region). AreDisjoint a.area b.area)
      region.members (Pairwise-from_AllPairs (λ a b. AreDisjoint (part a).area (part b).area) region.members parts)))

  -- and have each square of the region that a rectangle covers
  in_single : (index : ℕ) (square : Square) → CoversAt rects index square → Covers region.area square
      → (stack : Stack) × (In stack (stacks ++ singles) × Covers stack.area square)
  in_single index square at c =
      let single = single_of rects region.area index in
      let listed = In-map (single_of rects region.area) index region.members (is.knows.every index square at c) in
      let found = In-map_source contents_of single singles (subst (In single) (sym are) listed) in (
        found.0,
        (
          In-append_right found.0 stacks singles found.1.0,
          subst (λ (r : Region). Covers r.area square) (sym found.1.1)
              (covers_both (rect_at rects index) region.area square (rect_at_covers rects index square at) c),
        ),
      )

  -- so the region is made these stacks
  pub singles_keep : IsSplit rects rest (stacks ++ singles)
  singles_keep =
      let front = AllPairs-front (λ (a b : Region). AreDisjoint a.area b.area) rest region split.regions_apart in record {
        each_region = λ other i. split.each_region other (In-append_left other rest (region ∷ []) i);
        each_stack = λ stack i. elim (In-append_cases stack stacks singles i) [
          | inl j ↦ split.each_stack stack j
          | inr j ↦ (let found = source stack j in single_is_stack rects region found.0 stack is apart found.1.0 found.1.1)
        ];
        regions_apart = front.0;
        stacks_apart = AllPairs-from_Pairwise (λ (a b : Stack). AreDisjoint a.area b.area) (stacks ++ singles)
            (Pairwise-append (λ (a b : Stack). AreDisjoint a.area b.area) stacks singles
            (Pairwise-from_AllPairs (λ (a b : Stack). AreDisjoint a.area b.area) stacks split.stacks_apart) singles_apart
            (λ a b i j square c d. split.between a region i (In-push rest region) square c (inside b j square d)));
        between = λ stack other i j. elim (In-append_cases stack stacks singles i) [
          | inl k ↦ split.between stack other k (In-append_left other rest (region ∷ []) j)
          | inr k ↦ (λ square c d. front.1 other j square d (inside stack k square c))
        ];
        every = λ index square at. elim (split.every index square at) [
          | inl (stack, (i, c)) ↦ inl (stack, (In-append_left stack stacks singles i, c))
          | inr (other, (i, c)) ↦ elim (In-push_cases other rest region i) [
            | inl j ↦ inr (other, (j, c))
            | inr e ↦ inl (in_single index square at (subst (λ (r : Region). Covers r.area square) (sym e) c))
          ]
        ];
      }
