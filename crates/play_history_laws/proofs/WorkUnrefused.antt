-- Nothing of what nobody need ask for is refused.
use Rattle.std.proofs.Common.{◌≡◌, false, All, List, [], ◌∷◌, ◌++◌, refl}
use Rattle.std.proofs.lemmas.List.Elements.{All-cons, All-head, All-nil, All-tail}
use Rattle.omx_types.specs.declared.handle.Handle.{Handle}
use Rattle.il_machine.specs.Acts.{Act, Reply}
use Rattle.il_machine.specs.World.{World}
use Rattle.play_forms.specs.Plans.{PlanValue}
use Rattle.play_log.specs.Entries.{Entry, step_of, steps_of}
use Rattle.play_plan_laws.specs.Assemblies.{PlayFiles, play_cast_of}
use Rattle.play_history_laws.specs.Order.{Cursor, nothing_asked}
use Rattle.play_history_laws.specs.Faults.{IsFaultHistory}
use Rattle.play_history_laws.specs.Passes.{AreUnrefused}
use Rattle.play_history_laws.specs.Refused.{IsAtPart, is_refused}
use Rattle.play_history_laws.specs.Requests.{is_request}
use Rattle.play_history_laws.proofs.Requested.{history_on}
use Rattle.play_history_laws.proofs.PlanUnrefused.{not_refused}
use Rattle.play_history_laws.specs.Worked.{IsWorked}

module _ (plan : PlanValue) (files : PlayFiles) (handles : List Handle) (w : World) (entries : List Entry) (after : World) (W : IsWorked plan files handles w entries after) where
  abbrev first : Cursor
  first = nothing_asked (play_cast_of plan).cast

  abbrev IsThere : Entry → Type 0
  IsThere entry = IsAtPart plan handles entry.act

  abbrev IsAccepted : Entry → Type 0
  IsAccepted entry = is_request (step_of entry) ≡ false → is_refused entry.reply ≡ false

  from : (left : List Entry) (before : List (Act × Reply)) (k : Cursor) (v : World) (j : Cursor) (u : World)
      → IsFaultHistory (play_cast_of plan) first w before k v → IsFaultHistory (play_cast_of plan) k v (steps_of left) j u → All IsThere left → AreUnrefused left
  from [] before k v j u H G P = All-nil IsAccepted
  from (entry ∷ left) before k v j u H (between, middle, met, did, allowed, rest) P =
      All-cons IsAccepted entry left
      (λ n. not_refused plan files handles w before k v (record { ready = W.ready; stage = W.stage; goes = H }) entry.act entry.reply middle (All-head IsThere entry left P) n did)
      (from left (before ++ step_of entry ∷ []) between middle j u (history_on (play_cast_of plan) before first w k v H (step_of entry) between middle met did allowed) rest (All-tail IsThere entry left P))

  pub none_refused : (cursor : Cursor) → IsFaultHistory (play_cast_of plan) first w (steps_of entries) cursor after → AreUnrefused entries
  none_refused cursor G = from entries [] first w cursor after (refl, refl) G W.parts
