-- Along the entries of all passes: what holds between two entries of one pass, and is kept by those of others.
use Rattle.std.proofs.Common.{◌≡◌, inl, ℕ, suc, Bool, true, false, List, [], ◌∷◌, ◌++◌, map, refl, sym, ◌∙◌, ap, subst, append-nil, append_assoc}
use Rattle.std.specs.Prelude.{cond, filter}
use Rattle.il_machine.specs.Acts.{Act, Reply}
use Rattle.il_machine.specs.Run.{Meets, Run, Step}
use Rattle.il_machine.specs.World.{Stream, World}
use Rattle.history_laws.specs.GivenIn.{given_in}
use Rattle.machine_laws.proofs.Finding.{either}
use Rattle.play_model.specs.Play.{Play}
use Rattle.play_world_laws.specs.PlayWorlds.{PlayCast}
use Rattle.play_history_laws.specs.Following.{GoesTo}
use Rattle.play_history_laws.specs.Order.{Cursor}
use Rattle.play_history_laws.specs.Faults.{IsAnyAllowed, IsFaultHistory, IsFaulty}
use Rattle.play_history_laws.proofs.Faulty.{one_faulty}
use Rattle.play_history_laws.proofs.Telling.{one_given}
use Rattle.play_history_laws.specs.Askings.{read_of}
use Rattle.play_log.specs.Entries.{Entry, step_of, steps_of}
use Rattle.play_result_laws.specs.Passes.{own_steps}
use Rattle.play_history_laws.specs.Passes.{RequestAlone}
use Rattle.play_history_laws.proofs.Requested.{history_on, unrequested}
use Rattle.play_history_laws.proofs.Looking.{IsBroken, broken_on}

-- ---- whose entry it is

module _ (own : ℕ → Bool) (e : Entry) (left : List Entry) where
  abbrev chosen : List Entry
  chosen = filter (λ (y : Entry). own y.pass) left

  own_here : own e.pass ≡ true → own_steps own (e ∷ left) ≡ step_of e ∷ own_steps own left
  own_here t = ap (λ (b : Bool). map (λ (y : Entry). step_of y) (cond b (e ∷ chosen) chosen)) t

  own_else : own e.pass ≡ false → own_steps own (e ∷ left) ≡ own_steps own left
  own_else t = ap (λ (b : Bool). map (λ (y : Entry). step_of y) (cond b (e ∷ chosen) chosen)) t

-- ---- what holds

-- by the acts of the pass that are left, the cursor, the change that was begun last, the play and the world
abbrev pub Holding : Type 1
Holding = List (Act × Reply) → Cursor → ℕ → Play → World → Type 0

-- the play went on from one world to the other
pub record IsOn (x : PlayCast) (k : Cursor) (r : ℕ) (p : Play) (v : World) (j : Cursor) (s : ℕ) (q : Play) (u : World) : Type 0 where
  pub goes : GoesTo (x.cast).layout k r p j s q
  pub broken : (number : ℕ) → IsBroken number v → IsBroken number u

module _ (x : PlayCast) (first : Cursor) (w : World) where
  -- an act of another pass keeps it
  abbrev pub KeepsOthers : Holding → Type 0
  KeepsOthers K = (todo : List (Act × Reply)) (k : Cursor) (r : ℕ) (p : Play) (v : World) (s : ℕ) (q : Play) (u : World) → IsOn x k r p v k s q u → K todo k r p v → K todo k s q u

  -- its next act is allowed, and leads on
  abbrev pub KeepsOwn : Holding → Type 0
  KeepsOwn K = (step : Act × Reply) (todo before : List (Act × Reply)) (k : Cursor) (r : ℕ) (p : Play) (ss : List Stream) (v u : World) → IsFaultHistory x first w before k v → IsFaulty x k r p ss v
      → Meets v step.0 → Step v step.0 step.1 u → K (step ∷ todo) k r p v
      → (j : Cursor) × IsAnyAllowed x k (read_of v) step.0 j × ((s : ℕ) (q : Play) (ts : List Stream) → IsFaulty x j s q ts u → IsOn x k r p v j s q u → K todo j s q u)

  -- what it asks next is answered as it is listed
  abbrev pub AcceptsNext : Holding → Type 0
  AcceptsNext K = (step : Act × Reply) (todo before : List (Act × Reply)) (k : Cursor) (r : ℕ) (p : Play) (ss : List Stream) (v u : World) (reply : Reply) → IsFaultHistory x first w before k v → IsFaulty x k r p ss v → Step v step.0 reply u → K (step ∷ todo) k r p v
      → reply ≡ step.1

-- ---- where one stands

module _ (x : PlayCast) (first : Cursor) (w : World) (own : ℕ → Bool) (entries : List Entry) (after : World) where
  pub record Stand (K : Cursor → ℕ → Play → World → Type 0) (rest : List (Act × Reply)) : Type 0 where
    pub before : List (Act × Reply)
    pub left : List Entry
    pub all : before ++ steps_of left ≡ steps_of entries
    pub mine : own_steps own left ≡ rest
    pub alone : RequestAlone own left
    pub world : World
    pub run : Run world (steps_of left) after
    pub cursor : Cursor
    pub history : IsFaultHistory x first w before cursor world
    pub recent : ℕ
    pub now : Play
    pub streams : List Stream
    pub faulty : IsFaulty x cursor recent now streams world
    pub knows : K cursor recent now world

  -- one entry on
  step_on : (k : Cursor) (r : ℕ) (p : Play) (ss : List Stream) (v : World) (D : IsFaulty x k r p ss v) (step : Act × Reply) (u : World) (j : Cursor) (m : Meets v step.0) (s : Step v step.0 step.1 u) (A : IsAnyAllowed x k (read_of v) step.0 j)
      → (q : ℕ) × (now : Play) × (more : List Stream) × IsFaulty x j q now more u × IsOn x k r p v j q now u
  step_on k r p ss v D step u j m s A =
      let H = one_faulty x k r p ss v D step.0 step.1 u j m s A in (
        H.recent,
        H.now,
        H.later,
        H.faulty,
        record { goes = H.goes; broken = λ number t. broken_on number v u (given_in number (step ∷ [])) (one_given x k r p ss v D step.0 step.1 u j m s A number) t },
      )

  module _ (K : Holding) (others : KeepsOthers x first w K) (its : KeepsOwn x first w K) where
    walk_from : (left : List Entry) (todo rest before : List (Act × Reply)) (k : Cursor) (r : ℕ) (p : Play) (ss : List Stream) (v : World)
        → before ++ steps_of left ≡ steps_of entries → own_steps own left ≡ todo ++ rest → RequestAlone own left → Run v (steps_of left) after
        → IsFaultHistory x first w before k v → IsFaulty x k r p ss v → K todo k r p v → Stand (K []) rest
    walk_from left [] rest before k r p ss v e m N R H D k0 =
        record { before = before; left = left; all = e; mine = m; alone = N; world = v; run = R; cursor = k; history = H; recent = r; now = p; streams = ss; faulty = D; knows = k0 }
    walk_from [] (step ∷ todo) rest before k r p ss v e m N R H D k0 = absurd cc
    walk_from (entry ∷ left) (step ∷ todo) rest before k r p ss v e m N (u, met, did, R) H D k0 =
        let more : (before ++ step_of entry ∷ []) ++ steps_of left ≡ steps_of entries = append_assoc before (step_of entry ∷ []) (steps_of left) ∙ e in
        either (own entry.pass)
        (λ t.
        let cut : step_of entry ∷ own_steps own left ≡ step ∷ (todo ++ rest) = sym (own_here own entry left t) ∙ m in
        let same : step_of entry ≡ step = cc in
        let rests : own_steps own left ≡ todo ++ rest = cc in
        let A = its (step_of entry) todo before k r p ss v u H D met did (subst (λ (y : Act × Reply). K (y ∷ todo) k r p v) (sym same) k0) in
        let O = step_on k r p ss v D (step_of entry) u A.0 met did A.1 in
        walk_from left todo rest (before ++ step_of entry ∷ []) A.0 O.0 O.1 O.2 u more rests (λ place y f o. N (suc place) y f o) R (history_on x before first w k v H (step_of entry) A.0 u met did A.1) O.3 (A.2 O.0 O.1 O.2 O.3 O.4))
        (λ f.
        let rests : own_steps own left ≡ (step ∷ todo) ++ rest = sym (own_else own entry left f) ∙ m in
        let A : IsAnyAllowed x k (read_of v) entry.act k = inl (unrequested entry.act (N 0 entry refl f), refl) in
        let O = step_on k r p ss v D (step_of entry) u k met did A in
        walk_from left (step ∷ todo) rest (before ++ step_of entry ∷ []) k O.0 O.1 O.2 u more rests (λ place y g o. N (suc place) y g o) R (history_on x before first w k v H (step_of entry) k u met did A) O.3 (others (step ∷ todo) k r p v O.0 O.1 u O.4 k0))

    -- over these acts of the pass
    pub walk : (todo rest : List (Act × Reply)) → Stand (K todo) (todo ++ rest) → Stand (K []) rest
    walk todo rest S = walk_from S.left todo rest S.before S.cursor S.recent S.now S.streams S.world S.all S.mine S.alone S.run S.history S.faulty S.knows

  module _ (K : Holding) (others : KeepsOthers x first w K) where
    -- where none of the pass is left
    ends_from : (left : List Entry) (before : List (Act × Reply)) (k : Cursor) (r : ℕ) (p : Play) (ss : List Stream) (v : World)
        → before ++ steps_of left ≡ steps_of entries → own_steps own left ≡ [] → RequestAlone own left → Run v (steps_of left) after
        → IsFaultHistory x first w before k v → IsFaulty x k r p ss v → K [] k r p v
        → (j : Cursor) × (s : ℕ) × (q : Play) × (ts : List Stream) × IsFaultHistory x first w (steps_of entries) j after × IsFaulty x j s q ts after × K [] j s q after
    ends_from [] before k r p ss v e m N R H D k0 =
        let same : before ≡ steps_of entries = sym (append-nil before) ∙ e in (
          k,
          r,
          p,
          ss,
          subst (λ (ys : List (Act × Reply)). IsFaultHistory x first w ys k after) same (subst (λ (y : World). IsFaultHistory x first w before k y) (sym R) H),
          subst (λ (y : World). IsFaulty x k r p ss y) (sym R) D,
          subst (λ (y : World). K [] k r p y) (sym R) k0,
        )
    ends_from (entry ∷ left) before k r p ss v e m N (u, met, did, R) H D k0 =
        let more : (before ++ step_of entry ∷ []) ++ steps_of left ≡ steps_of entries = append_assoc before (step_of entry ∷ []) (steps_of left) ∙ e in
        either (own entry.pass)
        (λ t. let cut : step_of entry ∷ own_steps own left ≡ [] = sym (own_here own entry left t) ∙ m in absurd cc)
        (λ f.
        let A : IsAnyAllowed x k (read_of v) entry.act k = inl (unrequested entry.act (N 0 entry refl f), refl) in
        let O = step_on k r p ss v D (step_of entry) u k met did A in
        ends_from left (before ++ step_of entry ∷ []) k O.0 O.1 O.2 u more (sym (own_else own entry left f) ∙ m) (λ place y g o. N (suc place) y g o) R (history_on x before first w k v H (step_of entry) k u met did A) O.3 (others [] k r p v O.0 O.1 u O.4 k0))

    pub ends : Stand (K []) [] → (j : Cursor) × (s : ℕ) × (q : Play) × (ts : List Stream) × IsFaultHistory x first w (steps_of entries) j after × IsFaulty x j s q ts after × K [] j s q after
    ends S = ends_from S.left S.before S.cursor S.recent S.now S.streams S.world S.all S.mine S.alone S.run S.history S.faulty S.knows

  -- none of what is listed is answered otherwise
  module _ (K : Holding) (others : KeepsOthers x first w K) (its : KeepsOwn x first w K) (accepts : AcceptsNext x first w K) (expected : Act × Reply) (todo : List (Act × Reply)) (reply : Reply) (more : List (Act × Reply)) (other : reply ≡ expected.1 → ⊥) where
    refused_from : (left : List Entry) (before : List (Act × Reply)) (k : Cursor) (r : ℕ) (p : Play) (ss : List Stream) (v : World)
        → own_steps own left ≡ (expected.0, reply) ∷ more → RequestAlone own left → Run v (steps_of left) after
        → IsFaultHistory x first w before k v → IsFaulty x k r p ss v → K (expected ∷ todo) k r p v → ⊥
    refused_from [] before k r p ss v m N R H D k0 = absurd cc
    refused_from (entry ∷ left) before k r p ss v m N (u, met, did, R) H D k0 = either (own entry.pass)
        (λ t.
        let cut : step_of entry ∷ own_steps own left ≡ (expected.0, reply) ∷ more = sym (own_here own entry left t) ∙ m in
        let same : step_of entry ≡ (expected.0, reply) = cc in
        other (accepts expected todo before k r p ss v u reply H D (subst (λ (y : Act × Reply). Step v y.0 y.1 u) same did) k0))
        (λ f.
        let A : IsAnyAllowed x k (read_of v) entry.act k = inl (unrequested entry.act (N 0 entry refl f), refl) in
        let O = step_on k r p ss v D (step_of entry) u k met did A in
        refused_from left (before ++ step_of entry ∷ []) k O.0 O.1 O.2 u (sym (own_else own entry left f) ∙ m) (λ place y g o. N (suc place) y g o) R (history_on x before first w k v H (step_of entry) k u met did A) O.3 (others (expected ∷ todo) k r p v O.0 O.1 u O.4 k0))

    pub none_refused : (made : List (Act × Reply)) → Stand (K (made ++ expected ∷ todo)) (made ++ (expected.0, reply) ∷ more) → ⊥
    none_refused made S =
        let L : Holding = λ list. K (list ++ expected ∷ todo) in
        let E = walk L (λ list k r p v s q u O h. others (list ++ expected ∷ todo) k r p v s q u O h) (λ step list before k r p ss v u H D m s h. its step (list ++ expected ∷ todo) before k r p ss v u H D m s h) made ((expected.0, reply) ∷ more) S in
        refused_from E.left E.before E.cursor E.recent E.now E.streams E.world E.mine E.alone E.run E.history E.faulty E.knows
