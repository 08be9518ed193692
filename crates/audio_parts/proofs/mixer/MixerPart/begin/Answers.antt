use Rattle.std.proofs.Common.{◌≡◌, ◌*◌, ap, sym, ◌∙◌, length, take, drop, replicate, refl, arith}
use Rattle.std.proofs.lemmas.List.{length-replicate}
use Rattle.audio_parts.proofs.Fronts.{front_append}
use Rattle.audio_parts.proofs.Mixing.{sums_silent}
use Rattle.audio_parts.proofs.mixer.MixerPart.begin.Goals as goal

pub returns-clause-silent : goal.returns-clause-silent
returns-clause-silent c =
    let mixer = c.args.self.now in
    let n = c.args.frames * c.channels.result in
    let long : length c.clear_sums.new.sums ≡ mixer.sums.len = omega (arith, c.clear_sums.auto.sums, mixer.sums.ok.0) in
    record {
      summed = ap (take n) (front_append mixer.sums.len c.clear_sums.new.sums (drop (length c.clear_sums.new.sums) mixer.sums.items) long)
          ∙ c.clear_sums.ensures ∙ sym (sums_silent mixer.weights.items n (λ input. replicate (n * 2) 0) (λ k l. refl));
      whole = λ input l. length-replicate (n * 2) 0;
      silent = λ input l free. refl;
    }
