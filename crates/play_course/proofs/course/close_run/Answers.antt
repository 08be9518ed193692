use Rattle.std.proofs.Common.{arith}
use Rattle.play_course.proofs.course.close_run.Goals as goal

pub returns : goal.returns
returns g c = record {
  closed = c.close_files-closed.result;
  reads = c.has_risen-reads.result;
  writes = c.has_risen-writes.result;
  closes = c.close_files-closed.ensures;
  few = omega (arith, c.read_faults-read_before.type_inv, c.read_faults-read_before.ensures);
  read = λ is. (let rose = c.has_risen-reads.ensures.risen is in omega (arith, rose, c.read_faults-read_before.ensures, c.read_faults.ensures));
  unread = λ is. (let same = c.has_risen-reads.ensures.stays is in omega (arith, same, c.read_faults-read_before.ensures, c.read_faults.ensures));
  wrote = λ is. (let rose = c.has_risen-writes.ensures.risen is in omega (arith, rose, c.write_faults-write_before.ensures, c.write_faults.ensures));
  unwritten = λ is. (let same = c.has_risen-writes.ensures.stays is in omega (arith, same, c.write_faults-write_before.ensures, c.write_faults.ensures));
  is = c.settle.ensures;
}
