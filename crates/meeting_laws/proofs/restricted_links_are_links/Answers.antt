use Rattle.meeting_laws.proofs.Common.{Passes}
use Rattle.meeting_laws.proofs.PartLinks.{link_of_whole, restricted_link_lifted}
use Rattle.meeting_laws.proofs.restricted_links_are_links.Goals as goal

pub returns : goal.returns
returns c =
    let raw = c.args.tech.now in
    λ rules within parts others restricted fine position part other there also a b link. (
      link_of_whole (Passes within) parts others restricted raw position part other there also a b link,
      restricted_link_lifted (Passes within) parts others restricted raw rules fine position part other there also a b link,
    )
