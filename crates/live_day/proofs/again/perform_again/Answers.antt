use Rattle.std.proofs.Common.{◌<◌, ◌^◌, length, ap, arith}
use Rattle.live_day.proofs.StartLaws.{again_stands, again_whole}
use Rattle.live_day.proofs.again.perform_again.Goals as goal

pub returns-clause-stands : goal.returns-clause-stands
returns-clause-stands c =
    let says = c.in_ok-text.ensures.found in
    let holds = rw c.as_slice.ensures.value at c.in_ok-audit.ensures.holds in
    let bound : c.args.catalogue.now.opened.stations < 2 ^ 64 = omega (arith, c.station_count.ensures.value) in
    let long : length c.in_ok-text.text.journal < 2 ^ 64 = omega (arith, ap length c.as_slice.ensures.value) in
    again_stands c.args.log.now c.in_ok-text.text.journal c.in_ok-text.text.whole c.in_ok-text.text.count says c.args.catalogue.now.opened c.audit.new.catalogue.journal holds bound long

pub returns-clause-whole : goal.returns-clause-whole
returns-clause-whole c =
    let says = c.in_ok-text.ensures.found in
    let holds = rw c.as_slice.ensures.value at c.in_ok-audit.ensures.holds in
    let bound : c.args.catalogue.now.opened.stations < 2 ^ 64 = omega (arith, c.station_count.ensures.value) in
    let long : length c.in_ok-text.text.journal < 2 ^ 64 = omega (arith, ap length c.as_slice.ensures.value) in
    again_whole c.args.log.now c.in_ok-text.text.journal c.in_ok-text.text.whole c.in_ok-text.text.count says c.args.catalogue.now.opened c.audit.new.catalogue.journal holds bound long

pub returns-clause-small : goal.returns-clause-small
returns-clause-small c =
    let says = c.in_ok-text.ensures.found in
    let holds = rw c.as_slice.ensures.value at c.in_ok-audit.ensures.holds in
    let bound : c.args.catalogue.now.opened.stations < 2 ^ 64 = omega (arith, c.station_count.ensures.value) in
    let long : length c.in_ok-text.text.journal < 2 ^ 64 = omega (arith, ap length c.as_slice.ensures.value) in
    (again_stands c.args.log.now c.in_ok-text.text.journal c.in_ok-text.text.whole c.in_ok-text.text.count says c.args.catalogue.now.opened c.audit.new.catalogue.journal holds bound long).small
