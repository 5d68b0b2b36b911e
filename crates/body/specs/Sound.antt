-- Corners that are tested, or unfit: either way the meaning is sound.
use Rattle.std.specs.Prelude.{List}
use Rattle.std.proofs.lemmas.Bool.{cond_both}
use Rattle.vector.specs.declared.Vector.{Vector}
use Rattle.body.specs.Meaning.{unfit, corners, fits, body_of, Sound}

pub body_of_sound : (cs : List Vector) → Sound (body_of cs)
body_of_sound cs = cond_both (fits cs) (corners cs) unfit Sound (λ e. e) (λ e. tt)
