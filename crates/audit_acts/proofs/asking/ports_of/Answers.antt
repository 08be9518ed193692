use Rattle.audit_acts.proofs.asking.ports_of.Goals as goal

pub returns-in_default-port_of-clause-none : goal.returns-in_default-port_of-clause-none
returns-in_default-port_of-clause-none c = λ x. let y = x.4 in c.in_default-port_of.ensures.none y.0 y.1 y.2 y.3
