-- A turn gives the digest of a byte more. Assumes nothing.
use Rattle.std.proofs.Common.{◌≡◌, ◌∙◌, rules, refl, sym, ap}
use Rattle.std.proofs.lemmas.Fn.{fold_over, fronts, slice_gives}
use Rattle.cases.specs.Fnv.{fnv_step, fnv_from, fnv}
use Rattle.cases.proofs.Fnv.{fnv-more}
use Rattle.cases.proofs.digest.Goals as goal

pub returns : goal.returns
unfolding fnv_from
returns c = record {
  digest =
      fold_over fronts (λ y. y.now) _ (λ ys h. h ≡ fnv ys) _
      (λ ys a x b f' i k. (let e : b ≡ fnv_step a x.now = search rules in e ∙ ap (λ h. fnv_step h x.now) i ∙ sym (fnv-more _ ys x.now), search rules))
      c.iter.result c.iter.result.rest.now _ _ (slice_gives c.iter.result) refl c.fold.ensures.ran ∙ ap (λ l. fnv l) c.iter.ensures.rest;
}
