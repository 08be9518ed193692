-- What a turn of a play's loop tries, and what it says where nothing was accepted.
use Rattle.std.specs.Prelude.{◌≡◌, ℕ, ◌+◌, ◌<◌, ◌≤◌, Bool, true, false, List, length}
use Rattle.play_model.specs.Play.{Layout, Play, component_at}
use Rattle.play_model.specs.Acts.{Act, CanAct, CanActs, all_acted}
use Rattle.play_model.specs.Acts.Act.{Begin, Send, Run, Happen, Tell, TellEnd, Supply, Release, HandOver, HandBack, HandUnused, Announce, TellSettings, Conduct, RunPort, HappenPort, TellPort, Step}
use Rattle.play_model.specs.Reached.{IsReached, IsOver, acts_left}

-- the acts of a component's turn
abbrev pub IsOfComponent : Layout → ℕ → Act → Type 0
IsOfComponent w c (Run k) = k ≡ c
IsOfComponent w c (Tell k) = k ≡ c
IsOfComponent w c (TellEnd k) = k ≡ c
IsOfComponent w c (Step k n last) = k ≡ c
IsOfComponent w c (Announce l) = (w.network).giver l ≡ c
IsOfComponent w c (TellSettings l) = (w.network).giver l ≡ c
IsOfComponent w c (RunPort l output) = component_at w output l ≡ c
IsOfComponent w c (TellPort l output) = component_at w output l ≡ c
IsOfComponent w c _ = ⊥

-- the acts of a link's turn
abbrev pub IsOfLink : ℕ → Act → Type 0
IsOfLink l (Supply k) = k ≡ l
IsOfLink l (Release k) = k ≡ l
IsOfLink l (HandOver k) = k ≡ l
IsOfLink l (HandBack k) = k ≡ l
IsOfLink l (HandUnused k) = k ≡ l
IsOfLink l _ = ⊥

-- none of these acts can be made
abbrev pub CanNone : Layout → Play → (Act → Type 0) → Type 0
CanNone w p P = (a : Act) → P a → CanAct w p a → ⊥

-- nothing pending is due
pub record IsAtRest (w : Layout) (p : Play) : Type 0 where
  pub components : (c : ℕ) → CanAct w p (Happen c) → ⊥
  pub ports : (l : ℕ) (output : Bool) → CanAct w p (HappenPort l output) → ⊥

-- some acts lead from one play to the other
pub record HasRun (w : Layout) (p q : Play) : Type 0 where
  pub acts : List Act
  pub enabled : CanActs w p acts
  pub after : q ≡ all_acted w acts p

-- an accepted act, and perhaps more, with what happened after them
pub record HasActed (w : Layout) (p q : Play) : Type 0 where
  pub acts : List Act
  pub some : 0 < length acts
  pub enabled : CanActs w p acts
  pub after : q ≡ all_acted w acts p

-- a turn that accepted something, or found nothing of it to do and left all as it was
abbrev pub Turned : Layout → Play → Play → Bool → (Act → Type 0) → Type 0
Turned w p q true P = HasActed w p q × IsAtRest w q
Turned w p q false P = (q ≡ p) × CanNone w p P

-- What makes the acts may stand for many plays, and for one at least.
abbrev pub SomePlay : (Play → Type 0) → Type 0
SomePlay plays = (p : Play) × plays p

-- From each play that it stands for the turn leads to one that it stands for then.
abbrev pub TurnsOf : Layout → (Play → Type 0) → (Play → Type 0) → Bool → (Act → Type 0) → Type 0
TurnsOf w old new acted P = (p : Play) → old p → (q : Play) × new q × Turned w p q acted P

pub record IsGoing (w : Layout) (p : Play) : Type 0 where
  pub reached : IsReached w p
  pub rest : IsAtRest w p

-- the acts of the conductor
abbrev pub IsSend : Act → Type 0
IsSend Begin = Unit {0}
IsSend (Send c) = Unit {0}
IsSend (Conduct l) = Unit {0}
IsSend _ = ⊥

-- the acts tried so far in a round: those of the conductor, those of the components below c, and those of the links below l
abbrev pub IsTried : Layout → ℕ → ℕ → Act → Type 0
IsTried w c l Begin = Unit {0}
IsTried w c l (Send k) = Unit {0}
IsTried w c l (Conduct k) = Unit {0}
IsTried w c l (Run k) = k < c
IsTried w c l (Happen k) = ⊥
IsTried w c l (Tell k) = k < c
IsTried w c l (TellEnd k) = k < c
IsTried w c l (Step k n last) = k < c
IsTried w c l (Announce k) = (w.network).giver k < c
IsTried w c l (TellSettings k) = (w.network).giver k < c
IsTried w c l (RunPort k output) = component_at w output k < c
IsTried w c l (HappenPort k output) = ⊥
IsTried w c l (TellPort k output) = component_at w output k < c
IsTried w c l (Supply k) = k < l
IsTried w c l (Release k) = k < l
IsTried w c l (HandOver k) = k < l
IsTried w c l (HandBack k) = k < l
IsTried w c l (HandUnused k) = k < l

-- how a round stands: less is left, or nothing was accepted yet
pub record IsRound (w : Layout) (start now : Play) (did : Bool) (c l : ℕ) : Type 0 where
  pub going : IsGoing w now
  pub ran : HasRun w start now
  pub fell : did ≡ true → acts_left w now < acts_left w start
  pub still : did ≡ false → now ≡ start
  pub none : did ≡ false → CanNone w start (IsTried w c l)

-- the same of each play that was stood for
abbrev pub RoundsOf : Layout → (Play → Type 0) → (Play → Type 0) → Bool → ℕ → ℕ → Type 0
RoundsOf w old new did c l = (p : Play) → old p → IsGoing w p → (q : Play) × new q × IsRound w p q did c l

-- ---- from round to round

-- the play can go on, and has fewer acts before it than so many
pub record CanPlay (w : Layout) (plays : Play → Type 0) (most : ℕ) : Type 0 where
  pub play : Play
  pub stands : plays play
  pub going : IsGoing w play
  pub few : acts_left w play < most

-- after so many rounds
pub record IsOnWay (w : Layout) (start now : Play) (rounds : ℕ) : Type 0 where
  pub going : IsGoing w now
  pub ran : HasRun w start now
  pub less : rounds + acts_left w now ≤ acts_left w start

abbrev pub OnWayFrom : Layout → (Play → Type 0) → (Play → Type 0) → ℕ → Type 0
OnWayFrom w old new rounds = (p : Play) → old p → IsGoing w p → (q : Play) × new q × IsOnWay w p q rounds

pub record HasEnded (w : Layout) (start now : Play) : Type 0 where
  pub reached : IsReached w now
  pub ran : HasRun w start now
  pub over : IsOver w now

-- each play that could go on is over
abbrev pub EndsOf : Layout → (Play → Type 0) → (Play → Type 0) → Type 0
EndsOf w old new = (p : Play) → old p → IsGoing w p → (q : Play) × new q × HasEnded w p q

-- each play that is stood for is over
abbrev pub AreOver : Layout → (Play → Type 0) → Type 0
AreOver w plays = (p : Play) → plays p → IsOver w p
