use Rattle.convex.proofs.direction_tilts_to_face.Goals as goal
use Rattle.convex.proofs.Tilting.{tilts_to_face}

pub returns : goal.returns
returns c = tilts_to_face
