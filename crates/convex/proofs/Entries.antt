-- Lists of flats and ridges: further entries are harmless, and corners on one line have no flat and one ridge.
use Rattle.std.proofs.Common.{refl, inl}
use Rattle.vector.specs.Vectors.{◌-ᵛ◌}
use Rattle.convex.specs.Points.{◌∈◌}
use Rattle.convex.specs.Theorems.{MoreKeepsLaws, LineKeepsLaws}
use Rattle.convex.proofs.Members.{all_in}
use Rattle.convex.proofs.Lines.{flip, through, two_in_line}

pub more_keeps_laws : MoreKeepsLaws
more_keeps_laws cs fs rs gs ts s a b = record {
  flats = λ n f. let (g, i, m) = s.flats n f in (g, all_in (λ f. f ∈ gs) fs a g i, m);
  ridges = λ n e. let (u, i, h, k) = s.ridges n e in (u, all_in (λ u. u ∈ ts) rs b u i, h, k);
}

-- a face has three corners that differ and are not on one line
pub line_keeps_laws : LineKeepsLaws
line_keeps_laws cs u on = record {
  flats = λ n f.
      let p = f.p in
      let q = f.q in
      let r = f.r in
      let (h, a) = on p q f.p_top.member f.q_top.member (λ e. f.spread (two_in_line p q r e)) in
      let (k, b) = on p r f.p_top.member f.r_top.member (λ e. f.spread (flip (r -ᵛ p) (q -ᵛ p) (two_in_line p r q e))) in
      absurd (f.spread (through u (q -ᵛ p) (r -ᵛ p) h a b));
  ridges = λ n e. let (h, k) = on e.p e.q e.p_top.member e.q_top.member e.differ in (u, inl refl, h, k);
}
