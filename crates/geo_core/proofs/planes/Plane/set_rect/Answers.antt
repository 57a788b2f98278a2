use Rattle.geo_core.proofs.Common.{inl, refl}
use Rattle.geo_core.proofs.planes.Plane.set_rect.Goals as goal

pub returns-clause-set : goal.returns-clause-set
returns-clause-set g c = λ square covers.
    c.commit.ensures.set (record { area = c.args.area; value = c.args.value }) (inl refl) square covers
