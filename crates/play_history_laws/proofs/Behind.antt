-- What was told stays so as a play goes on.
use Rattle.std.proofs.Common.{◌≡◌, ◌⊎◌, inl, inr, ℕ, zero, suc, ◌+◌, refl, sym, ◌∙◌, ap, leb-true, arith}
use Rattle.il_machine.specs.declared.answer.Progress.{Progress}
use Rattle.play_model.specs.Acts.{Act, acted}
use Rattle.play_model.specs.Play.{Layout, Play}
use Rattle.play_world_laws.specs.Cast.{Cast}
use Rattle.play_world_laws.specs.Telling.{last_told}
use Rattle.play_world_laws.specs.PlayWorlds.{HasHeard}
use Rattle.play_history_laws.specs.Following.{IsLater}
use Rattle.play_history_laws.specs.Behind.{IsBehind}

-- ---- what was told

pub behind_on : (x : Cast) (p q : Play) (c : ℕ) (h : Progress) → IsLater p q → IsBehind x p c h → IsBehind x q c h
behind_on x p q c h L B = record {
  stage = B.stage;
  within = omega (arith, B.within, L.stage c);
  state = B.state ∙ ap (λ (n : ℕ). last_told n B.stage) (sym L.phase);
  eos = λ t. L.told c (B.eos t);
  error = B.error;
  settings = λ l O t s. omega (arith, B.settings l O t s, L.step l);
  past = λ o l b e t. let P = B.past o l b e t in (λ f. omega (arith, P.0 f, L.ports o l), λ f. omega (arith, P.1 f, L.ports o l));
}

-- what was heard now
pub heard_behind : (x : Cast) (recent : ℕ) (p : Play) (c : ℕ) (h : Progress) → HasHeard x recent p c h → IsBehind x p c h
heard_behind x recent p c h H = record {
  stage = p.stage c;
  within = omega arith;
  state = H.state;
  eos = λ t. sym H.eos ∙ t;
  error = H.error;
  settings = λ l O t s. leb-true 2 (p.change l).step (sym (H.settings l O t) ∙ s);
  past = H.past;
}

-- the next StateSet is begun, where each was told the last
told_so : (n : ℕ) → last_told n 4 ≡ last_told (n + 1) 0
told_so zero =
    let e : 1 ≡ zero + 1 = omega arith in
    ap (λ (k : ℕ). last_told k 0) e
told_so (suc n) =
    let e : suc (suc n) ≡ suc n + 1 = omega arith in
    ap (λ (k : ℕ). last_told k 0) e

pub begun_behind : (x : Cast) (w : Layout) (p : Play) (c : ℕ) (h : Progress) → (B : IsBehind x p c h) → (p.phase ≡ 0) ⊎ (B.stage ≡ 4) → IsBehind x (acted w Act.Begin p) c h
begun_behind x w p c h B four = record {
  stage = 0;
  within = omega arith;
  state = B.state ∙ by four;
  eos = B.eos;
  error = B.error;
  settings = B.settings;
  past = B.past;
}
  where
    by : (p.phase ≡ 0) ⊎ (B.stage ≡ 4) → last_told p.phase B.stage ≡ last_told (p.phase + 1) 0
    by (inl z) = rw z refl
    by (inr f) = ap (last_told p.phase) f ∙ told_so p.phase
