use Rattle.tech_draft.proofs.Common.{◌≡◌, drop, fold, with_partners, with_pairs, with_pair_list}
use Rattle.tech_draft.proofs.draft.Draft.add_pairs.Given as goal

-- what is left gives what all give
abbrev pub invariant-loop-first : goal.invariant-loop-first
invariant-loop-first l = with_pair_list l.self (fold (with_partners l.self.raw l.seconds) l.self.raw.pairs (drop l.first-index l.firsts))
    ≡ with_pair_list l.initial.self (with_pairs l.initial.self.raw l.firsts l.seconds)
