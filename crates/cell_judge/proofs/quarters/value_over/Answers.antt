use Rattle.std.proofs.Common.{ap, ◌∙◌}
use Rattle.solar_terms.specs.Sun.{minutes_of}
use Rattle.cell_judge.specs.Skies.{grid_value}
use Rattle.cell_judge.proofs.QuarterLemmas.{meridian_is, value_is}
use Rattle.cell_judge.proofs.quarters.value_over.Goals as goal

pub returns-in-Past : goal.returns-in-Past
returns-in-Past c = λ grid same.
    meridian_is grid c.args.kind _ _ _ c.sidereal_time-turned.result _ same c.in-Past.is c.sidereal_time-turned.ensures.sine c.sidereal_time-turned.ensures.cosine c.meridian_value_by.ensures
    ∙ ap (grid_value grid c.args.kind (minutes_of c.args.scene.now.minutes)) c.places_at-places.ensures

pub returns-in_default : goal.returns-in_default
returns-in_default c = λ grid same.
    value_is grid c.args.kind _ _ _ c.latitude.result c.sidereal_time-turned.result _ same c.latitude.ensures.sine c.latitude.ensures.cosine c.sidereal_time-turned.ensures.sine c.sidereal_time-turned.ensures.cosine c.value_by.ensures
    ∙ ap (grid_value grid c.args.kind (minutes_of c.args.scene.now.minutes)) c.places_at-places.ensures
