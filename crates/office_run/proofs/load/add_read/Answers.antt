use Rattle.office_run.proofs.LoadLaws.{fault_told, refusal_first, failure_told}
use Rattle.office_run.proofs.load.add_read.Goals as goal

pub returns-in-Err : goal.returns-in-Err
returns-in-Err c =
    let entry = c.args.entry.now in
    let why = c.in-Err.fault in
    let fault = c.entry_fault.result in
    let is = c.entry_fault.ensures.value in
    record {
      read = λ files h. tt;
      fault = λ files h. fault_told files entry why fault is (rw c.in-Err.is at h);
      names = tt;
      whole = tt;
      first = λ ne. rw c.in-Err.is (refusal_first entry why fault is ne);
      loads = λ files before after h. failure_told files before after entry why fault is (rw c.in-Err.is at h);
    }
