-- The plays that are reached, how far each one is from its end, and one that shows that there are such plays.
use Rattle.std.specs.Prelude.{[], ◌≡◌, ℕ, ◌+◌, ◌-◌, ◌*◌, ◌<◌, ◌≤◌, ◌⊎◌, Bool, true, false, not, ◌&&◌, ◌||◌, nat_eq, nat_le, if◌then◌else◌, length}
use Rattle.play_model.specs.Network.{Network, LinkState, queue}
use Rattle.play_model.specs.Account.{IsSound, IsOpening}
use Rattle.play_model.specs.Progress.{IsLinkOf, AllEnded, sum_to, work_left, all_headers}
use Rattle.play_model.specs.Numbers.{unbegun, to_idle, to_executing, back_to_idle, to_loaded, transition_pending, state_reached, state_told, not_announced, settings_told, both_disables_sent, both_enables_sent, untouched, disable_pending, enable_done, enable_told}
use Rattle.play_model.specs.Changes.{Change, IsChanged, IsHalfChanged, IsInOrder, HasAllHeaders, IsEmptied}
use Rattle.play_model.specs.Acts.{Act, other_port}
use Rattle.play_model.specs.Play.{Layout, IsLayout, Play, made, supplier, other_component, IsSettled}

-- What is always so of a link's change. Only a late source's link is changed, once all are Executing and before the
-- second Idle is begun.
pub record IsChanging (w : Layout) (p : Play) (l : ℕ) (k : Change) : Type 0 where
  pub order : IsInOrder k
  pub fixed : w.is_late l ≡ false → k.step ≡ not_announced
  pub early : p.phase ≤ to_idle → k.step ≡ not_announced
  pub over : back_to_idle ≤ p.phase → w.is_late l ≡ true → IsChanged k
  pub half : IsHalfChanged k → (p.phase ≡ to_executing) × ((c : ℕ) → c < (w.network).components → p.stage c ≡ state_told)
  pub emptied : IsEmptied k → made p l ≡ 0
  -- before its port is enabled again a late source gives nothing, and nothing is on its way in its link
  pub quiet : w.is_late l ≡ true → k.output < enable_done → (queue ((p.flow).link l) ≡ []) × ((p.flow).ended ((w.network).giver l) ≡ false)

-- What holds at every moment of a play. Phases 1 to 4 bring all to Idle, Executing, Idle and Loaded.
pub record IsReached (w : Layout) (p : Play) : Type 0 where
  pub layout : IsLayout w
  pub phase : p.phase ≤ to_loaded
  pub stage : (c : ℕ) → c < (w.network).components → p.stage c ≤ state_told
  pub told : (c : ℕ) → c < (w.network).components → p.told c ≡ true → (p.flow).ended c ≡ true
  pub few : (l : ℕ) → l < (w.network).links → made p l ≤ (w.network).count l
  -- before the first command is begun
  pub first : p.phase ≡ unbegun → (c : ℕ) → c < (w.network).components → p.stage c ≡ state_told
  -- a component that has reached the first Idle has its headers, and while all are up each link has
  pub up : p.phase ≡ to_idle → (c : ℕ) → c < (w.network).components → state_reached ≤ p.stage c → (l : ℕ) → IsLinkOf w.network c l →
      made p l ≡ (w.network).count l
  -- while they run each link has its headers, but for the time in which it is changed
  pub full : to_executing ≤ p.phase → p.phase ≤ back_to_idle → (l : ℕ) → l < (w.network).links → HasAllHeaders (p.change l) → made p l ≡ (w.network).count l
  -- nothing flows before Executing is begun; the account holds until the second Idle is begun, and then all have ended
  pub opening : p.phase ≤ to_idle → IsOpening w.network p.flow
  pub sound : p.phase ≤ to_executing → IsSound w.network p.flow
  pub ended : back_to_idle ≤ p.phase → AllEnded w.network p.flow
  -- a component that has reached the second Idle has all headers of its links at home, and later each link has
  pub settled : p.phase ≡ back_to_idle → (c : ℕ) → c < (w.network).components → state_reached ≤ p.stage c → (l : ℕ) → IsLinkOf w.network c l →
      IsSettled (w.by_output l) ((p.flow).link l)
  pub home : p.phase ≡ to_loaded → (l : ℕ) → l < (w.network).links → IsSettled (w.by_output l) ((p.flow).link l)
  -- a component that is Loaded again has no header, and a header is unmade only by a supplier on its way
  pub unmade : p.phase ≡ to_loaded → (c : ℕ) → c < (w.network).components → state_reached ≤ p.stage c → (l : ℕ) → IsLinkOf w.network c l → made p l ≡ 0
  pub leaving : p.phase ≡ to_loaded → (l : ℕ) → l < (w.network).links → made p l < (w.network).count l → transition_pending ≤ p.stage (supplier w l)
  pub changes : (l : ℕ) → l < (w.network).links → IsChanging w p l (p.change l)

-- the opening: nothing was sent, made or done
pub record IsBegun (w : Layout) (p : Play) : Type 0 where
  pub layout : IsLayout w
  pub phase : p.phase ≡ unbegun
  pub stage : (c : ℕ) → p.stage c ≡ state_told
  pub told : (c : ℕ) → p.told c ≡ false
  pub opening : IsOpening w.network p.flow
  pub none : (l : ℕ) → made p l ≡ 0
  pub unchanged : (l : ℕ) → p.change l ≡ record { step = not_announced; output = untouched; input = untouched }

-- each component has told that it is Loaded again
pub record IsOver (w : Layout) (p : Play) : Type 0 where
  pub phase : p.phase ≡ to_loaded
  pub all : (c : ℕ) → c < (w.network).components → p.stage c ≡ state_told

-- ---- the measure: three numbers, of which no act raises the first two

-- They count what is still to be sent, told, made and done, and not what is queued; so an act that queues a note raises
-- none of them.

-- 1. What is still to be sent, told and made: of each component the ways to each state, the end of its stream; of each
-- link its headers, made and unmade, and of a late source's link what is to be told and sent of its change, and its
-- headers a second time.
abbrev pub ways_left : Layout → Play → ℕ → ℕ
ways_left w p c = 5 * (to_loaded - p.phase) + (state_told - p.stage c) + (if w.is_sink c && not (p.told c) then 1 else 0)

-- the tunnel of a late source isn't dropped yet
abbrev pub is_unchanged : Layout → Play → ℕ → Bool
is_unchanged w p l = w.is_late l && nat_le (p.change l).step both_disables_sent

abbrev pub makings_at : ℕ → ℕ → Bool → ℕ → ℕ
makings_at phase count unchanged made_ =
    if nat_le phase to_idle then (count - made_) + count + (if unchanged then 2 * count else 0)
    else (if nat_le phase back_to_idle then (if unchanged then made_ + 2 * count else (count - made_) + count) else made_)

abbrev pub makings_left : Layout → Play → ℕ → ℕ
makings_left w p l = makings_at p.phase ((w.network).count l) (is_unchanged w p l) (made p l)

abbrev pub changes_left : Layout → Play → ℕ → ℕ
changes_left w p l = if w.is_late l then (both_enables_sent - (p.change l).step) + (enable_told - (p.change l).output) + (enable_told - (p.change l).input) else 0

abbrev pub script_left : Layout → Play → ℕ
script_left w p =
    (to_loaded - p.phase) + sum_to (w.network).components (ways_left w p)
    + sum_to (w.network).links (makings_left w p) + sum_to (w.network).links (changes_left w p)

-- 2. The frames that are to be done: work_left of the flow.
-- 3. The headers in the lists done, and twice those in todo of an end that is to give them back.
abbrev pub is_returning : Play → ℕ → Bool
is_returning p c = nat_eq p.phase back_to_idle && nat_eq (p.stage c) transition_pending

-- the end that doesn't supply the link is to give its headers back
abbrev pub is_returning_at : Layout → Play → ℕ → Bool
is_returning_at w p l = is_returning p (other_component w l) || nat_eq (other_port w p l) disable_pending

abbrev pub unused_of : Bool → LinkState → ℕ
unused_of true x = length x.held
unused_of false x = x.ready

abbrev pub hands_of : Layout → Play → ℕ → ℕ
hands_of w p l =
    let x = (p.flow).link l in
    length x.sent + x.spent + (if is_returning_at w p l then 2 * unused_of (w.by_output l) x else 0)

abbrev pub hands_left : Layout → Play → ℕ
hands_left w p = sum_to (w.network).links (hands_of w p)

-- the three as one number, since the second and third have bounds that stay
abbrev pub all_frames : Network → ℕ
all_frames net = sum_to net.components (λ c. net.frames c + 1)

abbrev pub acts_left : Layout → Play → ℕ
acts_left w p =
    (script_left w p * (all_frames w.network + 1) + work_left w.network p.flow) * (2 * all_headers w.network + 1) + hands_left w p

-- q has less left than p, by the first number that differs
abbrev pub ComesBefore : Layout → Play → Play → Type 0
ComesBefore w q p =
    (script_left w q < script_left w p)
    ⊎ ((script_left w q ≡ script_left w p) × (work_left w.network q.flow < work_left w.network p.flow))
    ⊎ ((script_left w q ≡ script_left w p) × (work_left w.network q.flow ≡ work_left w.network p.flow) × (hands_left w q < hands_left w p))

-- a component's step, or a hand-over or hand-back on one of its links
abbrev pub IsFlowActOf : Layout → ℕ → Act → Type 0
IsFlowActOf w c (Act.Step k n last) = k ≡ c
IsFlowActOf w c (Act.HandOver l) = IsLinkOf w.network c l
IsFlowActOf w c (Act.HandBack l) = IsLinkOf w.network c l
IsFlowActOf w c _ = ⊥

-- a late source's link of this component isn't changed: the port is held, or has its format open
pub record IsUnset (w : Layout) (p : Play) (c l : ℕ) : Type 0 where
  pub link : IsLinkOf w.network c l
  pub late : w.is_late l ≡ true
  pub unset : (p.change l).step ≤ settings_told

-- What the ends of a late source's link wait for while a port of it is held or has its format open: the late source
-- announces, a note is told, the conductor begins a change.
abbrev pub IsAwaitedAt : ℕ → Act → Type 0
IsAwaitedAt l (Act.Announce k) = k ≡ l
IsAwaitedAt l (Act.Tell c) = Unit {0}
IsAwaitedAt l (Act.TellSettings k) = Unit {0}
IsAwaitedAt l (Act.Conduct k) = Unit {0}
IsAwaitedAt l _ = ⊥

-- ---- a play: three frames from a source, or a late source, to a sink

abbrev pub a_link : Bool → Layout
a_link late = record {
  network = record {
    components = 2;
    links = 1;
    giver = λ l. 0;
    taker = λ l. 1;
    count = λ l. 2;
    fits = λ l. 1;
    is_source = λ c. nat_eq c 0;
    frames = λ c. 3;
  };
  by_output = λ l. false;
  is_sink = λ c. not (nat_eq c 0);
  is_late = λ l. late;
  place = λ c. c;
}

abbrev pub a_play : Play
a_play = record {
  phase = unbegun;
  stage = λ c. state_told;
  told = λ c. false;
  flow = record {
    done = λ c. 0;
    ended = λ c. false;
    link = λ l. record { ready = 0; sent = []; held = []; spent = 0; taken = 0; closed = false };
  };
  change = λ l. record { step = not_announced; output = untouched; input = untouched };
}
