use Rattle.tech_draft.proofs.Common.{◌≡◌, drop, fold, with_pair, with_partners, with_pair_list}
use Rattle.tech_draft.proofs.draft.Draft.add_partners.Given as goal

-- what is left gives what all give
abbrev pub invariant-loop-second : goal.invariant-loop-second
invariant-loop-second l = with_pair_list l.self (fold (with_pair l.self.raw l.first) l.self.raw.pairs (drop l.second-index l.seconds))
    ≡ with_pair_list l.initial.self (with_partners l.initial.self.raw l.seconds l.initial.self.raw.pairs l.first)
