use Rattle.tech_draft.proofs.Common.{◌≡◌, ◌++◌, [], map, words_of, plane_of_word, has_repeat}
use Rattle.tech_draft.proofs.draft.Draft.are_misplaced.Given as goal

-- the planes so far, and what is left answers what all answer
abbrev pub invariant-loop-residue : goal.invariant-loop-residue
invariant-loop-residue l = record {
  planes : l.planes.items ++ map (plane_of_word l.self.raw) l.residue-iterator ≡ map (plane_of_word l.self.raw) (words_of l.residues);
  same : has_repeat l.planes.items (map (plane_of_word l.self.raw) l.residue-iterator)
      ≡ has_repeat [] (map (plane_of_word l.self.raw) (words_of l.residues));
}
