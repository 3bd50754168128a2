use Rattle.std.proofs.Common.{◌≡◌, ◌↔◌, List, Ok, Err, sym, subst, rules}
use Rattle.std.specs.Prelude.{IsErrOf}
use Rattle.catalogue_core.specs.declared.entry.Entry.{Entry}
use Rattle.shared_catalogue.specs.declared.receipt.Receipt.{Receipt}
use Rattle.shared_catalogue.specs.declared.settle.SettleFault.TheVariants.{SeatMissing, ReceiptMismatch}
use Rattle.shared_catalogue.specs.OwnCalls.{AreOwn, IsLowestOther}
use Rattle.shared_catalogue.specs.Seats.{AreSeated, IsLowestMissing, IsLowestMismatch}
use Rattle.shared_catalogue.proofs.MatchLaws.{mismatch_here, mismatch_nowhere, mismatch_unseated}
use Rattle.shared_catalogue.proofs.SeatLaws.{missing_nowhere}
use Rattle.shared_catalogue.proofs.shared.Shared.settle.Goals as goal

pub returns-in_err-closed-clause-missing : goal.returns-in_err-closed-clause-missing
returns-in_err-closed-clause-missing g c =
    let zs = c.args.seats.items in
    let n = g.J.Naming.opened.stations in
    let same : c.from_residual.result ≡ Err c.in_err-closed.field-0.0 = search rules in
    λ s. subst (λ r. IsErrOf r (SeatMissing s) ↔ IsLowestMissing zs n s) (sym same) (c.in_err-closed.ensures.missing s)

pub returns-in_err-closed-clause-mismatch : goal.returns-in_err-closed-clause-mismatch
returns-in_err-closed-clause-mismatch g c =
    let zs = c.args.seats.items in
    let n = g.J.Naming.opened.stations in
    let fault = c.in_err-closed.field-0.0 in
    let same : c.from_residual.result ≡ Err fault = search rules in
    let e = c.in_err-closed.ensures in
    λ s. subst (λ r. IsErrOf r (ReceiptMismatch s) ↔ (AreSeated zs n × IsLowestMismatch zs c.args.receipts.items s)) (sym same) (mismatch_unseated fault zs c.args.receipts.items n e.no_mismatch e.missing s)

pub returns-in-Some-clause-missing : goal.returns-in-Some-clause-missing
returns-in-Some-clause-missing g c = missing_nowhere (Err (ReceiptMismatch c.in-Some.station)) c.args.seats.items g.J.Naming.opened.stations (λ s e. cc) c.in_ok-closed.ensures.seated

pub returns-in-Some-clause-mismatch : goal.returns-in-Some-clause-mismatch
returns-in-Some-clause-mismatch g c =
    let journal = c.in_ok-closed.closed.journal in
    let lists = c.args.receipts.items in
    let a = c.in-Some.station in
    let entries : c.journal.result.now ≡ journal = search rules in
    let found : IsLowestOther c.journal.result.now c.deref.result.now a = c.in-Some.ensures.some in
    let other : IsLowestOther journal lists a = subst (λ (y : List Entry). IsLowestOther y lists a) entries (subst (λ (l : List (List Receipt)). IsLowestOther c.journal.result.now l a) c.deref.ensures.value found) in
    mismatch_here journal c.args.seats.items lists g.J.Naming.opened.stations a c.in_ok-closed.ensures.seated c.in_ok-closed.ensures.own c.requires.lists other

pub returns-clause-mismatch : goal.returns-clause-mismatch
returns-clause-mismatch g c =
    let n = g.J.Naming.opened.stations in
    let lists = c.args.receipts.items in
    let all : AreOwn c.in_ok-closed.closed.journal lists n = search rules in
    mismatch_nowhere (Ok c.in_ok-closed.closed) c.in_ok-closed.closed.journal c.args.seats.items lists n (λ s e. cc) c.in_ok-closed.ensures.own c.requires.lists all
