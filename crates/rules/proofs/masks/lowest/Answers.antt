use Rattle.std.proofs.Common.{◌≡◌, ◌-◌, true, false, refl, rules}
use Rattle.std.proofs.lemmas.Iterator.{first_from_Range}
use Rattle.rules.specs.Masks.{lies, lowest}
use Rattle.rules.proofs.Bits.{find-first}
use Rattle.rules.proofs.masks.lowest.Goals as goal

pub returns : goal.returns
unfolding lowest
returns c =
    let a = c.args.from in
    let m = c.args.mask in
    find-first (λ k. lies k m) a (32 - a) 32 refl _ (first_from_Range _ _ _ _ (λ k. lies k m ≡ true) (λ k. lies k m ≡ false) c.find.ensures.ran (λ x q k. search rules) (λ x q k. search rules))
