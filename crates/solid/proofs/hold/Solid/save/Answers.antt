use Rattle.solid.specs.Questions.{solid_rows}
use Rattle.solid.proofs.Back.{saved_back}
use Rattle.solid.proofs.hold.Solid.save.Goals as goal

pub returns : goal.returns
returns c = record {
  answer = c.encode.ensures.answer;
  bytes = c.encode.ensures.bytes;
  back = saved_back (solid_rows c.args.self.now) c.args.buffer.now _ c.encode.result c.encode.ensures.answer c.encode.ensures.bytes c.encode.ensures.allowed c.args.self.now.kept;
}
