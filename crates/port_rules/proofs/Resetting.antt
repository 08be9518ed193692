-- The reset of a component's ports, one port after the other.
use Rattle.std.proofs.Common.{◌≡◌, ℕ, ◌+◌, List, drop, slice_get, Some, sym, ◌∙◌, ap}
use Rattle.il_machine.specs.declared.port.Port.{Port}
use Rattle.il_machine.specs.World.{HeaderRecord}
use Rattle.il_machine.specs.Due.{reset_port, reset_ports}
use Rattle.il_machine.specs.Stock.{Stocked}
use Rattle.flush_mark.specs.Leading.{Leads}
use Rattle.flush_mark.proofs.ResetSteps.{Begun}
use Rattle.port_rules.proofs.Walking.{drop_at}

pub port_step : (change : List HeaderRecord → List HeaderRecord) (old s t : Stocked) (ps : List Port) (i : ℕ) (p : Port) → slice_get ps i ≡ Some p → Begun change (reset_ports (drop i ps)) old s → Leads (reset_port p) s t
    → Begun change (reset_ports (drop (i + 1) ps)) old t
port_step change old s t ps i p e B R = record {
  stands = λ hs S.
      let x = B.stands hs S in
      record {
        headers = reset_port p x.headers;
        stands = R.stands x.headers x.stands;
        ends = ap (λ (qs : List Port). reset_ports qs x.headers) (sym (drop_at ps i p e)) ∙ x.ends;
      };
  key = R.key ∙ B.key;
  ports = R.ports ∙ B.ports;
  next = R.next ∙ B.next;
}
