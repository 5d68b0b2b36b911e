use Rattle.convex.proofs.edge_in_two_faces.Goals as goal
use Rattle.convex.proofs.TwoFaces.{edge_in_two_faces}

pub returns : goal.returns
returns c = edge_in_two_faces
