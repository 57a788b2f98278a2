use Rattle.full_names.proofs.PlaceLaws.{places_push}
use Rattle.full_names.proofs.places.add_places.Goals as goal

pub loop-own-preserved : goal.loop-own-preserved
loop-own-preserved c = places_push c.args.element c.loop-own.own c.args.places.now.items c.loop-own.places.items c.push.new.self.items
    c.loop-own.invariant c.in_ok-push.ensures.items
