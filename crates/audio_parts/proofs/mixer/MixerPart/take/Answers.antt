use Rattle.std.proofs.Common.{◌≡◌, ℕ, ◌+◌, ◌*◌, ◌<◌, ◌≤◌, List, ℤ, All, true, ap, sym, subst, ◌∙◌, length, set, take, drop, replicate, unsigned_abs, count_by, arith}
use Rattle.std.specs.Simd.Lanes.{zip2}
use Rattle.std.proofs.lemmas.List.{get_or_read}
use Rattle.pcm_ops.specs.Samples.{samples, mixed}
use Rattle.part_api.specs.Streams.{with_input}
use Rattle.part_forms.specs.Mixing.{sums}
use Rattle.audio_parts.proofs.Fronts.{front_append}
use Rattle.audio_parts.proofs.Inputs.{with_same, with_other, with_each, with_untaken}
use Rattle.audio_parts.proofs.Mixing.{sums_with, one_more_taken}
use Rattle.audio_parts.proofs.mixer.MixerPart.take.Goals as goal

pub invariant_of-self-clause-bounded : goal.invariant_of-self-clause-bounded
invariant_of-self-clause-bounded c =
    let mixer = c.args.self.now in
    let flags : c.args.input < length mixer.taken.items = omega (arith, c.requires.open.0, mixer.flags, mixer.taken.ok.0, mixer.weights.ok.0) in
    let more = one_more_taken mixer.taken.items c.args.input flags c.requires.open.1 in
    let long : length c.mix_front.new.sums ≡ mixer.sums.len = omega (arith, c.mix_front.auto.sums, c.deref_mut.ensures.len, mixer.sums.ok.0) in
    let bound = 524280 * count_by (λ is_taken. is_taken) mixer.taken.items in
    let before : All (λ (s : ℤ). unsigned_abs s ≤ bound) (take mixer.count c.deref_mut.result.now) =
    subst (λ (l : List ℤ). All (λ (s : ℤ). unsigned_abs s ≤ bound) (take mixer.count l)) (sym c.deref_mut.ensures.value) mixer.bounded in
    let next : bound + 524280 ≡ 524280 * count_by (λ is_taken. is_taken) (set mixer.taken.items c.args.input true) = omega (arith, more) in
    let grown : All (λ (s : ℤ). unsigned_abs s ≤ 524280 * count_by (λ is_taken. is_taken) (set mixer.taken.items c.args.input true)) (take mixer.count c.mix_front.new.sums) =
    subst (λ (n : ℕ). All (λ (s : ℤ). unsigned_abs s ≤ n) (take mixer.count c.mix_front.new.sums)) next (c.mix_front.ensures.grows bound before) in
    subst (λ (l : List ℤ). All (λ (s : ℤ). unsigned_abs s ≤ 524280 * count_by (λ is_taken. is_taken) (set mixer.taken.items c.args.input true)) (take mixer.count l))
    (sym (front_append mixer.sums.len c.mix_front.new.sums (drop (length c.mix_front.new.sums) mixer.sums.items) long)) grown

pub returns-clause-came : goal.returns-clause-came
returns-clause-came c = λ incoming h.
    let mixer = c.args.self.now in
    let i = c.args.input in
    let piece = c.args.piece.now in
    let within = c.requires.open.0 in
    let flags : i < length mixer.taken.items = omega (arith, within, mixer.flags, mixer.taken.ok.0, mixer.weights.ok.0) in
    let long : length c.mix_front.new.sums ≡ mixer.sums.len = omega (arith, c.mix_front.auto.sums, c.deref_mut.ensures.len, mixer.sums.ok.0) in
    let weight = c.index.result.now in
    record {
      summed = ap (take mixer.count) (front_append mixer.sums.len c.mix_front.new.sums (drop (length c.mix_front.new.sums) mixer.sums.items) long)
          ∙ c.mix_front.ensures.value
          ∙ ap (λ (l : List ℤ). zip2 (mixed weight) (take mixer.count l) (samples piece)) c.deref_mut.ensures.value
          ∙ ap (λ (l : List ℤ). zip2 (mixed weight) l (samples piece)) h.summed
          ∙ ap (λ (n : ℕ). zip2 (mixed n) (sums mixer.weights.items (mixer.count * 2) incoming.input) (samples piece)) (get_or_read mixer.weights.items _ _ within c.index.ensures 0)
          ∙ sym (sums_with mixer.weights.items mixer.count incoming.input (with_input i piece incoming).input i piece within h.whole (h.silent i within c.requires.open.1)
          (with_same i piece incoming) c.requires.whole (with_other i piece incoming));
      whole = λ k l. with_each (λ (p : List ℕ). length p ≡ mixer.count * 2) i piece incoming k c.requires.whole (h.whole k l);
      silent = λ k l free. with_untaken (λ (p : List ℕ). p ≡ replicate (mixer.count * 2) 0) mixer.taken.items i piece incoming k flags free (h.silent k l);
    }
