-- A work is run and comes back to the graph, and what that says of a line.
use Rattle.std.specs.Prelude.{◌≡◌, ℕ, List, [], Option, None, Some, IfSome, IsSomeAnd}
use Rattle.outside_io.specs.Moves.{WhereTold}
use Rattle.act_text.specs.declared.reply.TextReply.{TextReply}
use Rattle.act_text.specs.declared.reply.TextReply.TheVariants as texts
use Rattle.audio_parts.specs.Shown.{ShownPart}
use Rattle.il_flow.specs.Works.{DoneOf, WorkOf}
use Rattle.il_graph.specs.Shown.{Shown}
use Rattle.compared_files.specs.Comparing.{ComparingValue, IsFrontless, given_by}
use Rattle.graph_acts.specs.declared.act.Act.TheVariants as asks
use Rattle.graph_acts.specs.declared.act.Reply.TheVariants as replies
use Rattle.graph_acts.specs.Moving.{Moved}
use Rattle.graph_acts.specs.Plain.{Sight}
use Rattle.graph_acts.specs.Sinks.{sink_in}
use Rattle.graph_acts.specs.Working.{IsRunOf, out_of}
use Rattle.run_audit.specs.declared.returning.Back.{Back}
use Rattle.run_audit.specs.declared.returning.Back.TheVariants.{Same, Other, OtherFile, Failed}

module _ {S : Type 0} (told : S → Option (List ℕ)) where
  -- what the sink was given isn't a front of its file
  abbrev pub HasOther : ComparingValue S → Type 0
  HasOther snk = WhereTold (told snk.src) (λ known. IsFrontless known (given_by known snk))

  -- without a fault, with the frames that the line says, and then by the sink
  abbrev pub IsBackAs : DoneOf (ShownPart S (ComparingValue S)) → TextReply → Back → Type 0
  IsBackAs done said Same = (done.fault ≡ None) × (said ≡ texts.Finished done.frames) × IfSome (sink_in done.part) (λ snk. snk.other ≡ [])
  IsBackAs done said OtherFile = (done.fault ≡ None) × (said ≡ texts.Finished done.frames) × IsSomeAnd (sink_in done.part) HasOther
  IsBackAs done said Other = (done.fault ≡ None) × (said ≡ texts.Finished done.frames → ⊥)
  IsBackAs done said (Failed fault) = done.fault ≡ Some fault

-- The work was run, and came back to the graph so.
pub record IsReturned {S C : Type 0} (see : Sight S (ComparingValue S) C) (told : S → Option (List ℕ)) (old new : Shown S (ComparingValue S) C) (work : WorkOf (ShownPart S (ComparingValue S))) (said : TextReply) (back : Back) : Type 0 where
  pub done : DoneOf (ShownPart S (ComparingValue S))
  pub run : IsRunOf see.reads see.writes (out_of work) done
  pub moved : Moved see (asks.Finish done) replies.Finish old new
  pub told_so : IsBackAs told done said back
