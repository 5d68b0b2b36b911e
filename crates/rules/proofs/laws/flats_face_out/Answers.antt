use Rattle.rules.proofs.Facing.{flats_face_out}
use Rattle.rules.proofs.laws.flats_face_out.Goals as goal

pub returns : goal.returns
returns c = flats_face_out
