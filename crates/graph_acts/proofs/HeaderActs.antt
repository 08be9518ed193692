-- The acts on headers of client ports.
use Rattle.std.proofs.Common.{◌≡◌, inl, inr, sym, subst, None, IfOk, OnOk, OnErr, Result, Ok, Err}
use mathlib.Core.Logic.{dite}
use native.Mathlib.Decide.{ℕ_discrete}
use Rattle.il_machine.specs.Buffers.{IsWithClient}
use Rattle.header_core.specs.BufferHeader.{BufferHeader}
use Rattle.graph_core.specs.Entries.{look_of}
use Rattle.il_graph.specs.Shown.{Shown}
use Rattle.graph_core.specs.Changes.{IsHandedIn}
use Rattle.il_graph.specs.HandedIn.{StayHandedIn, KeepsOthersHandedIn, IsTakenIn, IsHandedOut}
use Rattle.graph_acts.specs.Holding.{ok_header, on_ok}
use Rattle.graph_acts.specs.Moving.{MovesHeaders}
use Rattle.graph_acts.proofs.Acts.{headers_stay}

module _ {S K C : Type 0} where
  -- the graph is as before
  pub same_headers : (old new : Shown S K C) → new ≡ old → MovesHeaders None None old new
  same_headers old new e = headers_stay old new (record { stay = λ x h. subst (λ g. IsHandedIn x (look_of g.core)) (sym e) h; come = λ n h. subst (λ g. IsWithClient n (look_of g.core)) e h })

  pub headers_given : {E : Type 0} (result : Result BufferHeader E) (old new : Shown S K C) → StayHandedIn (look_of old.core) (look_of new.core)
      → IfOk result (λ header. IsHandedOut (look_of old.core) (look_of new.core) header) → OnErr result (new ≡ old) → MovesHeaders None (ok_header result) old new
  headers_given (Ok header) old new S H e = record {
    stay = λ x o h. S x h;
    back = λ n h. dite (ℕ_discrete header.held.number n) (λ is. inr is) (λ ne. inl (H.come n (λ is. ne (sym is)) h, tt));
    given = record { now = H.handed; other = H.other };
  }
  headers_given (Err x) old new S H e = same_headers old new e

  pub headers_taken : {T E : Type 0} (result : Result T E) (header : BufferHeader) (old new : Shown S K C) → KeepsOthersHandedIn header (look_of old.core) (look_of new.core)
      → OnOk result (IsTakenIn header (look_of new.core)) → OnErr result (new ≡ old) → MovesHeaders (on_ok result header) None old new
  headers_taken (Ok done) header old new K t e = record {
    stay = λ x o h. K.stay x o h;
    back = λ n h. inl (K.come n h, λ is. t (subst (λ k. IsWithClient k (look_of new.core)) is h));
    given = tt;
  }
  headers_taken (Err x) header old new K t e = same_headers old new e
