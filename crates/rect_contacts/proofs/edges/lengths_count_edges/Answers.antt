-- Each clause is a law of the squares.
use Rattle.rect_contacts.proofs.Leading.{edges_between-disjoint, edges_between-same, Lists-squares_of, sum_on-squares_of}
use Rattle.rect_contacts.proofs.Opening.{open_edges-disjoint}
use Rattle.rect_contacts.proofs.BothWays.{contacts_both_ways}
use Rattle.rect_contacts.proofs.edges.lengths_count_edges.Goals as goal

pub returns-clause-squares : goal.returns-clause-squares
returns-clause-squares c = Lists-squares_of

pub returns-clause-area : goal.returns-clause-area
returns-clause-area c = sum_on-squares_of

pub returns-clause-shared : goal.returns-clause-shared
returns-clause-shared c = edges_between-disjoint

pub returns-clause-alone : goal.returns-clause-alone
returns-clause-alone c = edges_between-same

pub returns-clause-among_others : goal.returns-clause-among_others
returns-clause-among_others c = open_edges-disjoint

pub returns-clause-contacts : goal.returns-clause-contacts
returns-clause-contacts c = contacts_both_ways
