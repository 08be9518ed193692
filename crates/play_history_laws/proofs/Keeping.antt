-- What the acts of a play that nobody asks for leave of what was asked.
use Rattle.std.proofs.Common.{◌≡◌, ◌≢◌, inl, inr, ℕ, ◌<◌, ◌≤◌, Bool, true, false, nat_eq, if◌then◌else◌, List, [], ◌∷◌, refl, ◌∙◌, ap, subst, eqb-true, arith}
use Rattle.std.proofs.lemmas.Bool.{eqb-false}
use Rattle.machine_laws.proofs.Finding.{either}
use Rattle.play_model.specs.Acts.{Act, CanAct, CanActs, acted, all_acted, with_change, with_stage}
use Rattle.play_model.specs.Acts.Act.{Begin, Send, Run, Happen, Tell, TellEnd, Supply, Release, HandOver, HandBack, HandUnused, Announce, TellSettings, Conduct, RunPort, HappenPort, TellPort, Step}
use Rattle.play_model.specs.Changes.{Change, HasCommand, HasCompletion, IsChanged, IsPortDue, port_at, port_on, told_on}
use Rattle.play_model.specs.Play.{Layout, Play}
use Rattle.play_world_laws.specs.Happenings.{AreHappenings, IsHappening}
use Rattle.play_world_laws.specs.Tellings.{IsTellingOf}
use Rattle.play_turn_laws.specs.Turns.{IsBackOf, IsRunOf, IsStepOf}

pub record KeepsAsked (p q : Play) : Type 0 where
  pub phase : q.phase ≡ p.phase
  pub unsent : (c : ℕ) → p.stage c ≡ 0 → q.stage c ≡ 0
  pub sent : (c : ℕ) → p.stage c ≢ 0 → q.stage c ≢ 0
  pub told : (c : ℕ) → p.stage c ≡ 4 → q.stage c ≡ 4
  pub few : (l : ℕ) → (p.change l).step ≤ 2 → (q.change l).step ≤ 2
  pub more : (l : ℕ) → 3 ≤ (p.change l).step → (q.change l).step ≡ (p.change l).step
  pub changed : (l : ℕ) → IsChanged (p.change l) → IsChanged (q.change l)

pub keeps_itself : (p : Play) → KeepsAsked p p
keeps_itself p = record { phase = refl; unsent = λ c e. e; sent = λ c n. n; told = λ c e. e; few = λ l b. b; more = λ l b. refl; changed = λ l C. C }

pub keeps_through : (p m q : Play) → KeepsAsked p m → KeepsAsked m q → KeepsAsked p q
keeps_through p m q A B = record {
  phase = B.phase ∙ A.phase;
  unsent = λ c e. B.unsent c (A.unsent c e);
  sent = λ c n. B.sent c (A.sent c n);
  told = λ c e. B.told c (A.told c e);
  few = λ l b. B.few l (A.few l b);
  more = λ l b. let e = A.more l b in B.more l (omega (arith, b, e)) ∙ e;
  changed = λ l C. B.changed l (A.changed l C);
}

-- ---- one that changed, and the others

pub at_one : {A : Type 0} (P : A → Type 0) (c d : ℕ) (a b : A) → (c ≡ d → P a) → (c ≢ d → P b) → P (if nat_eq c d then a else b)
at_one P c d a b here else_ = either (nat_eq c d) (λ t. rw t (here (eqb-true c d t))) (λ f. rw f (else_ (eqb-false c d f)))

stage_moves : (p : Play) (d s t : ℕ) → p.stage d ≡ s → 1 ≤ s → s ≤ 3 → 1 ≤ t → KeepsAsked p (with_stage d t p)
stage_moves p d s t e low high to = record {
  phase = refl;
  unsent = λ c f. at_one (λ (m : ℕ). m ≡ 0) c d t (p.stage c) (λ q. let g : p.stage c ≡ s = ap p.stage q ∙ e in absurd (omega (arith, f, g, low))) (λ n. f);
  sent = λ c n. at_one (λ (m : ℕ). m ≢ 0) c d t (p.stage c) (λ q z. absurd (omega (arith, z, to))) (λ m. n);
  told = λ c f. at_one (λ (m : ℕ). m ≡ 4) c d t (p.stage c) (λ q. let g : p.stage c ≡ s = ap p.stage q ∙ e in absurd (omega (arith, f, g, high))) (λ n. f);
  few = λ l b. b;
  more = λ l b. refl;
  changed = λ l C. C;
}

told_moves : (p : Play) (l : ℕ) → (p.change l).step ≤ 1 → KeepsAsked p (with_change l told_on p)
told_moves p l low = record {
  phase = refl;
  unsent = λ c e. e;
  sent = λ c n. n;
  told = λ c e. e;
  few = λ k b. at_one (λ (z : Change). z.step ≤ 2) k l (told_on (p.change k)) (p.change k) (λ q. let g : (p.change k).step ≡ (p.change l).step = ap (λ (j : ℕ). (p.change j).step) q in omega (arith, g, low)) (λ n. b);
  more = λ k b. at_one (λ (z : Change). z.step ≡ (p.change k).step) k l (told_on (p.change k)) (p.change k) (λ q. let g : (p.change k).step ≡ (p.change l).step = ap (λ (j : ℕ). (p.change j).step) q in absurd (omega (arith, g, low, b))) (λ n. refl);
  changed = λ k C. at_one IsChanged k l (told_on (p.change k)) (p.change k) (λ q. let g : (p.change k).step ≡ (p.change l).step = ap (λ (j : ℕ). (p.change j).step) q in let ten = C.0 in absurd (omega (arith, g, low, ten))) (λ n. C);
}

step_on : (o : Bool) (k : Change) → (port_on o k).step ≡ k.step
step_on true k = refl
step_on false k = refl

unfinished : (o : Bool) (k : Change) → port_at o k < 8 → IsChanged k → ⊥
unfinished true k b C = let e = C.1 in omega (arith, b, e)
unfinished false k b C = let e = C.2 in omega (arith, b, e)

port_moves : (p : Play) (l : ℕ) (o : Bool) → port_at o (p.change l) < 8 → KeepsAsked p (with_change l (port_on o) p)
port_moves p l o low = record {
  phase = refl;
  unsent = λ c e. e;
  sent = λ c n. n;
  told = λ c e. e;
  few = λ k b. at_one (λ (z : Change). z.step ≤ 2) k l (port_on o (p.change k)) (p.change k) (λ q. let e = step_on o (p.change k) in omega (arith, e, b)) (λ n. b);
  more = λ k b. at_one (λ (z : Change). z.step ≡ (p.change k).step) k l (port_on o (p.change k)) (p.change k) (λ q. step_on o (p.change k)) (λ n. refl);
  changed = λ k C. at_one IsChanged k l (port_on o (p.change k)) (p.change k) (λ q. absurd (unfinished o (p.change l) low (subst (λ (j : ℕ). IsChanged (p.change j)) q C))) (λ n. C);
}

commanded : (n : ℕ) → HasCommand n → n < 8
commanded n (inl e) = omega (arith, e)
commanded n (inr e) = omega (arith, e)

due : (made count n : ℕ) → IsPortDue made count n → n < 8
due made count n (inl e) = let f = e.0 in omega (arith, f)
due made count n (inr e) = let f = e.0 in omega (arith, f)

completed : (n : ℕ) → HasCompletion n → n < 8
completed n (inl e) = omega (arith, e)
completed n (inr e) = omega (arith, e)

-- ---- the acts

-- not the conductor's
abbrev pub IsWorkers : Act → Type 0
IsWorkers Begin = ⊥
IsWorkers (Send c) = ⊥
IsWorkers (Conduct l) = ⊥
IsWorkers _ = Unit {0}

pub keeps_own : (w : Layout) (p : Play) (a : Act) → IsWorkers a → CanAct w p a → KeepsAsked p (acted w a p)
keeps_own w p Begin O C = absurd O
keeps_own w p (Send c) O C = absurd O
keeps_own w p (Conduct l) O C = absurd O
keeps_own w p (Run c) O C = stage_moves p c 1 2 C.1 (omega arith) (omega arith) (omega arith)
keeps_own w p (Happen c) O C =
    let K = stage_moves p c 2 3 C.1 (omega arith) (omega arith) (omega arith) in
    record { phase = K.phase; unsent = K.unsent; sent = K.sent; told = K.told; few = K.few; more = K.more; changed = K.changed }
keeps_own w p (Tell c) O C = stage_moves p c 3 4 C.1 (omega arith) (omega arith) (omega arith)
keeps_own w p (TellEnd c) O C = record { phase = refl; unsent = λ c e. e; sent = λ c n. n; told = λ c e. e; few = λ l b. b; more = λ l b. refl; changed = λ l C. C }
keeps_own w p (Supply l) O C = record { phase = refl; unsent = λ c e. e; sent = λ c n. n; told = λ c e. e; few = λ l b. b; more = λ l b. refl; changed = λ l C. C }
keeps_own w p (Release l) O C = record { phase = refl; unsent = λ c e. e; sent = λ c n. n; told = λ c e. e; few = λ l b. b; more = λ l b. refl; changed = λ l C. C }
keeps_own w p (HandOver l) O C = record { phase = refl; unsent = λ c e. e; sent = λ c n. n; told = λ c e. e; few = λ l b. b; more = λ l b. refl; changed = λ l C. C }
keeps_own w p (HandBack l) O C = record { phase = refl; unsent = λ c e. e; sent = λ c n. n; told = λ c e. e; few = λ l b. b; more = λ l b. refl; changed = λ l C. C }
keeps_own w p (HandUnused l) O C = record { phase = refl; unsent = λ c e. e; sent = λ c n. n; told = λ c e. e; few = λ l b. b; more = λ l b. refl; changed = λ l C. C }
keeps_own w p (Announce l) O C = told_moves p l (let e = C.3 in omega (arith, e))
keeps_own w p (TellSettings l) O C = told_moves p l (let e = C.3 in omega (arith, e))
keeps_own w p (RunPort l o) O C = port_moves p l o (commanded (port_at o (p.change l)) C.2)
keeps_own w p (HappenPort l o) O C = port_moves p l o (due _ _ (port_at o (p.change l)) C.2)
keeps_own w p (TellPort l o) O C = port_moves p l o (completed (port_at o (p.change l)) C.2)
keeps_own w p (Step c n last) O C = record { phase = refl; unsent = λ c e. e; sent = λ c n. n; told = λ c e. e; few = λ l b. b; more = λ l b. refl; changed = λ l C. C }

-- ---- by what they are of

pub workers_run : (w : Layout) (c : ℕ) (a : Act) → IsRunOf w c a → IsWorkers a
workers_run w c (Run k) h = tt
workers_run w c (RunPort l o) h = tt
workers_run w c _ h = absurd h

pub workers_telling : (w : Layout) (c : ℕ) (a : Act) → IsTellingOf w c a → IsWorkers a
workers_telling w c (Tell k) h = tt
workers_telling w c (TellEnd k) h = tt
workers_telling w c (TellSettings l) h = tt
workers_telling w c (TellPort l o) h = tt
workers_telling w c _ h = absurd h

pub workers_step : (w : Layout) (c : ℕ) (a : Act) → IsStepOf w c a → IsWorkers a
workers_step w c (Step k n last) h = tt
workers_step w c (Announce l) h = tt
workers_step w c _ h = absurd h

pub workers_back : (l : ℕ) (a : Act) → IsBackOf l a → IsWorkers a
workers_back l (HandBack k) h = tt
workers_back l (HandUnused k) h = tt
workers_back l _ h = absurd h

pub workers_happening : (a : Act) → IsHappening a → IsWorkers a
workers_happening (Happen c) h = tt
workers_happening (HappenPort l o) h = tt
workers_happening Begin h = absurd h
workers_happening (Send c) h = absurd h
workers_happening (Run c) h = absurd h
workers_happening (Tell c) h = absurd h
workers_happening (TellEnd c) h = absurd h
workers_happening (Supply l) h = absurd h
workers_happening (Release l) h = absurd h
workers_happening (HandOver l) h = absurd h
workers_happening (HandBack l) h = absurd h
workers_happening (HandUnused l) h = absurd h
workers_happening (Announce l) h = absurd h
workers_happening (TellSettings l) h = absurd h
workers_happening (Conduct l) h = absurd h
workers_happening (RunPort l o) h = absurd h
workers_happening (TellPort l o) h = absurd h
workers_happening (Step c n last) h = absurd h

pub keeps_happening : (w : Layout) (p : Play) (acts : List Act) → CanActs w p acts → AreHappenings acts → KeepsAsked p (all_acted w acts p)
keeps_happening w p [] C H = keeps_itself p
keeps_happening w p (a ∷ acts) C H = keeps_through p (acted w a p) (all_acted w acts (acted w a p)) (keeps_own w p a (workers_happening a H.0) C.0) (keeps_happening w (acted w a p) acts C.1 H.1)
