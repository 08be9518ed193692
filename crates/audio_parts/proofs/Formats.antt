-- Frames in bytes.
use Rattle.std.proofs.Common.{◌≡◌, ℕ, ◌+◌, ◌-◌, ◌*◌, ◌≤◌, ap, sym, subst, ◌∙◌, arith}
use Rattle.omx_types.specs.declared.format.Format.{Format}
use Rattle.omx_types.specs.declared.format.Format.TheVariants.{Pcm, Alaw, Mulaw, Auto}
use Rattle.omx_types.specs.Formats.{channels_of, frame_bytes_of, IsWithinLimits}

twice : (f c : ℕ) → f * c ≤ 4096 → f * (2 * c) ≤ 8192
twice f c h = omega (arith, h)

once : (f c : ℕ) → f * c ≤ 4096 → f * c ≤ 8192
once f c h = omega (arith, h)

-- the register has room for them
pub few_bytes : (format : Format) (frames : ℕ) → IsWithinLimits format → frames * channels_of format ≤ 4096 → frames * frame_bytes_of format ≤ 8192
few_bytes (Pcm rate channels) frames l h = twice frames channels h
few_bytes (Alaw rate channels) frames l h = once frames channels h
few_bytes (Mulaw rate channels) frames l h = once frames channels h
few_bytes Auto frames l h = absurd (let some = l.some_channel in omega arith)

behind : (next frames rest bytes size : ℕ) → next + (frames + rest) * bytes ≤ size → next + frames * bytes + rest * bytes ≤ size
behind next frames rest bytes size h = omega (arith, h)

-- those that are left still lie in the file
pub rest_there : (next left frames bytes size : ℕ) → frames ≤ left → next + left * bytes ≤ size → next + frames * bytes + (left - frames) * bytes ≤ size
rest_there next left frames bytes size few h =
    let whole : left ≡ frames + (left - frames) = omega (arith, few) in
    behind next frames (left - frames) bytes size (subst (λ n. next + n * bytes ≤ size) whole h)

first : (next frames rest bytes size : ℕ) → next + (frames + rest) * bytes ≤ size → next + frames * bytes ≤ size
first next frames rest bytes size h = omega (arith, h)

pub first_there : (next left frames bytes size : ℕ) → frames ≤ left → next + left * bytes ≤ size → next + frames * bytes ≤ size
first_there next left frames bytes size few h =
    let whole : left ≡ frames + (left - frames) = omega (arith, few) in
    first next frames (left - frames) bytes size (subst (λ n. next + n * bytes ≤ size) whole h)

pub rest_is : (at next left taken frames long bytes size now : ℕ) → at ≡ next + long → long ≡ frames * bytes → taken ≡ frames → now ≡ size
    → frames ≤ left → next + left * bytes ≤ size → at + (left - taken) * bytes ≤ now
rest_is at next left taken frames long bytes size now a l t s few h =
    let e : at + (left - taken) * bytes ≡ next + frames * bytes + (left - frames) * bytes =
    ap (λ k. k + (left - taken) * bytes) (a ∙ ap (λ n. next + n) l) ∙ ap (λ k. next + frames * bytes + (left - k) * bytes) t in
    subst (λ n. n ≤ now) (sym e) (subst (λ n. next + frames * bytes + (left - frames) * bytes ≤ n) (sym s) (rest_there next left frames bytes size few h))
