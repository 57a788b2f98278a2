-- Paths that the records of cells as they stand join.
use Rattle.tree_names.proofs.Common.{◌≡◌, ℕ, List, [], ◌∷◌, map, inl, inr, refl, ◌∙◌, ap, subst, In, In-append_cases, In-map, In-map_source}
use Rattle.tree_names.proofs.Common.{Transform, CellExt, path_text, NamedTree, NamedElements, NamedStanding, named_standings, named_standings_below}
use Rattle.tree_names.proofs.Common.{named_above, named_tree, no_more, element_then, ArePathsJoined, ArePathsJoinedBelow}
use Rattle.name_classes.proofs.FiniteSets.Members.{In-append_left, In-append_right}
use Rattle.tree_names.specs.PathLinks.{AreJoinedIn}

-- The record of a cell among these joins two names or paths, whose paths from the top are these.
pub record AreJoinedAmong (exts : List CellExt) (cells : List NamedStanding) (first second : List ℕ) : Type 0 where
  pub standing : NamedStanding
  pub listed : In standing cells
  pub one : List ℕ
  pub other : List ℕ
  pub joined : AreJoinedIn exts standing.own.name one other
  pub first_is : first ≡ path_text standing.ids one
  pub second_is : second ≡ path_text standing.ids other

-- what stands in the first element stands below
pub listed_first : (id : List ℕ) (placed : Transform) (tree : NamedTree) (rest : NamedElements) (standing : NamedStanding)
    → In standing (named_standings tree) → In (named_above id placed standing) (named_standings_below (element_then id placed tree rest))
listed_first id placed tree rest standing listed =
    In-append_left (named_above id placed standing) (map (named_above id placed) (named_standings tree)) (named_standings_below rest)
    (In-map (named_above id placed) standing (named_standings tree) listed)

-- and so does what stands in a later one
pub listed_later : (id : List ℕ) (placed : Transform) (tree : NamedTree) (rest : NamedElements) (standing : NamedStanding)
    → In standing (named_standings_below rest) → In standing (named_standings_below (element_then id placed tree rest))
listed_later id placed tree rest standing listed =
    In-append_right standing (map (named_above id placed) (named_standings tree)) (named_standings_below rest) listed

module _ (exts : List CellExt) where
  mutual
    -- what the record of a cell as it stands joins is joined in the tree
    pub joined_there : (tree : NamedTree) (standing : NamedStanding) → In standing (named_standings tree) → (one other : List ℕ)
        → AreJoinedIn exts standing.own.name one other
        → ArePathsJoined exts tree (path_text standing.ids one) (path_text standing.ids other)
    joined_there (named_tree own elements) standing (inl same) one other joined =
        let P : NamedStanding → Type 0 = λ o. AreJoinedIn exts o.own.name one other
        → ArePathsJoined exts (named_tree own elements) (path_text o.ids one) (path_text o.ids other) in
        subst P same (λ here. inl here) joined
    joined_there (named_tree own elements) standing (inr below) one other joined = inr
        (joined_below elements standing below one other joined)

    joined_below : (elements : NamedElements) (standing : NamedStanding) → In standing (named_standings_below elements) → (one other : List ℕ)
        → AreJoinedIn exts standing.own.name one other
        → ArePathsJoinedBelow exts elements (path_text standing.ids one) (path_text standing.ids other)
    joined_below no_more standing none one other joined = absurd none
    joined_below (element_then id placed tree rest) standing here one other joined =
        elim (In-append_cases standing (map (named_above id placed) (named_standings tree)) (named_standings_below rest) here) [
          | inl first ↦
              (let source = In-map_source (named_above id placed) standing (named_standings tree) first in
              let inner = source.0 in
              let P : NamedStanding → Type 0 = λ o. AreJoinedIn exts o.own.name one other
              → ArePathsJoinedBelow exts (element_then id placed tree rest) (path_text o.ids one) (path_text o.ids other) in
              subst P source.1.1
              (λ is. inl (path_text inner.ids one, path_text inner.ids other, joined_there tree inner source.1.0 one other is, refl, refl)) joined)
          | inr later ↦ inr (joined_below rest standing later one other joined)
        ]

  mutual
    -- and what is joined in the tree the record of a cell as it stands joins
    pub joined_among : (tree : NamedTree) (first second : List ℕ) → ArePathsJoined exts tree first second
        → AreJoinedAmong exts (named_standings tree) first second
    joined_among (named_tree own elements) first second (inl here) =
        record { standing = _; listed = inl refl; one = first; other = second; joined = here; first_is = refl; second_is = refl }
    joined_among (named_tree own elements) first second (inr below) =
        let found = joined_among_below elements first second below in
        record {
          standing = found.standing;
          listed = inr found.listed;
          one = found.one;
          other = found.other;
          joined = found.joined;
          first_is = found.first_is;
          second_is = found.second_is;
        }

    joined_among_below : (elements : NamedElements) (first second : List ℕ) → ArePathsJoinedBelow exts elements first second
        → AreJoinedAmong exts (named_standings_below elements) first second
    joined_among_below no_more first second none = absurd none
    joined_among_below (element_then id placed tree rest) first second (inl here) =
        let found = joined_among tree here.0 here.1 here.2 in
        record {
          standing = named_above id placed found.standing;
          listed = listed_first id placed tree rest found.standing found.listed;
          one = found.one;
          other = found.other;
          joined = found.joined;
          first_is = here.3 ∙ ap (path_text (id ∷ [])) found.first_is;
          second_is = here.4 ∙ ap (path_text (id ∷ [])) found.second_is;
        }
    joined_among_below (element_then id placed tree rest) first second (inr later) =
        let found = joined_among_below rest first second later in
        record {
          standing = found.standing;
          listed = listed_later id placed tree rest found.standing found.listed;
          one = found.one;
          other = found.other;
          joined = found.joined;
          first_is = found.first_is;
          second_is = found.second_is;
        }
