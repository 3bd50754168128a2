-- How a call of the program ends.
use Rattle.std.proofs.Common.{◌≡◌, ◌∙◌, sym, subst, ℕ, Bool, true, List, Option, Result, Ok, Err, IfErr, IfOk, OnOk, IsErrAnd, option_copied}
use Rattle.dbf_image.specs.declared.fault.ImageFault.{ImageFault}
use Rattle.folders.specs.declared.named.NamedFile.{NamedFile}
use Rattle.folders.specs.declared.source.LoadFault.{LoadFault}
use Rattle.folders.specs.declared.source.LoadFault.TheVariants as load
use Rattle.folders.specs.Files.{IsUnrecovered}
use Rattle.tool_program.specs.declared.checking.CheckFault.{CheckFault}
use Rattle.tool_program.specs.declared.checking.CheckFault.TheVariants as check
use Rattle.program_frame.specs.declared.ending.Ending.{Ending}
use Rattle.program_frame.specs.declared.ending.Ending.TheVariants as ended
use Rattle.tool_program.specs.declared.fault.ToolFault.{ToolFault}
use Rattle.tool_program.specs.declared.fault.ToolFault.TheVariants as tool
use Rattle.tool_program.specs.declared.asked.Options.{Options}
use Rattle.tool_program.specs.declared.order.OrderFault.{OrderFault}
use Rattle.tool_program.specs.declared.report.ToolReport.{ToolReport}
use Rattle.tool_program.specs.declared.showing.ShowFault.{ShowFault}
use Rattle.tool_program.specs.declared.showing.ShowFault.TheVariants as show
use Rattle.tool_program.specs.Answers.{IsTrueOfTable}
use Rattle.tool_program.specs.Check.{check_load_fault}
use Rattle.tool_program.specs.Command.{IsWhyNotRead}
use Rattle.tool_program.specs.Faults.{IsToolFaultOfSetup, TellsUnreadFolder}
use Rattle.table_reader.specs.Memos.{IsMemosFault, IsNotHad}
use Rattle.table_reader.specs.TableFiles.{IsNoTable}
use Rattle.tool_program.specs.View.{IsNoOrder}

module _ {T : Type 0} (files : Option (List NamedFile)) (before after : Option ℕ) where
  -- a fault of showing a table is true of its files
  pub true_of_table : (options : Options) (shown : Result T ShowFault) (fault : ShowFault) → shown ≡ Err fault
      → (shown ≡ Err (show.Load load.CannotRead) → IsNotHad files before after options.table.now)
      → (shown ≡ Err (show.Load load.Unrecovered) → IsUnrecovered files options.table.now)
      → ((why : LoadFault) → shown ≡ Err (show.Memos why) → IsMemosFault files (IsNotHad files before after) options.table.now (option_copied options.memos) why)
      → ((why : ImageFault) → shown ≡ Err (show.Table why) → IsNoTable files (IsNotHad files before after) options.table.now (option_copied options.memos) why)
      → ((why : OrderFault) → shown ≡ Err (show.Order why) → IsNoOrder files before after options why)
      → IsTrueOfTable files before after options fault
  true_of_table options shown (show.Load load.CannotRead) is failed unrecovered memos no_table no_order = failed is
  true_of_table options shown (show.Load load.Unrecovered) is failed unrecovered memos no_table no_order = unrecovered is
  true_of_table options shown (show.Load load.NoMemory) is failed unrecovered memos no_table no_order = tt
  true_of_table options shown (show.Memos why) is failed unrecovered memos no_table no_order = memos why is
  true_of_table options shown (show.Table why) is failed unrecovered memos no_table no_order = no_table why is
  true_of_table options shown (show.Order why) is failed unrecovered memos no_table no_order = no_order why is
  true_of_table options shown (show.Text why) is failed unrecovered memos no_table no_order = tt

pub err_is : {T E : Type 0} (r : Result T E) (a b : E) → r ≡ Err a → r ≡ Err b → a ≡ b
err_is r a b e h = let same : Err a ≡ Err b = sym e ∙ h in cc

pub answered_as : {E : Type 0} (r : Result Bool E) (x b : Bool) (P : Bool → Type 0) → r ≡ Ok x → x ≡ b → IfOk r P → P b
answered_as r x b P e is h = subst P is (subst (λ s. IfOk s P) e h)

pub ok_not_err : {T E : Type 0} (r : Result T E) (x : T) (e : E) → r ≡ Ok x → r ≡ Err e → ⊥
ok_not_err r x e ok err = let clash : Ok x ≡ Err e = sym ok ∙ err in cc

not_sink : (why : LoadFault) → check_load_fault why ≡ check.Sink → ⊥
not_sink load.CannotRead e = absurd cc
not_sink load.Unrecovered e = absurd cc
not_sink load.NoMemory e = absurd cc

-- a fault of loading a setup is told as such
pub setup_load_told : (fault : CheckFault) (why : LoadFault) (path : List ℕ) (closed : Bool) (told : Result ToolReport ToolFault)
    → fault ≡ check_load_fault why → IfErr told (IsToolFaultOfSetup fault path) → OnOk told ((fault ≡ check.Sink) × (closed ≡ true))
    → IsErrAnd told (IsToolFaultOfSetup (check_load_fault why) path)
setup_load_told fault why path closed (Ok report) e h k = absurd (not_sink why (sym e ∙ k.0))
setup_load_told fault why path closed (Err ending) e h k = subst (λ (f : CheckFault). IsToolFaultOfSetup f path ending) e h

-- ---- words that are not read

neither : (words : List (List ℕ)) (fault : ToolFault) → IsWhyNotRead words (ended.Failed fault) → TellsUnreadFolder fault → ⊥
neither words tool.BadRange why says = says
neither words tool.NoMemory why says = says
neither words fault why says = why

-- are told otherwise than a folder that can't be read
pub not_read_unread : (words : List (List ℕ)) (ending : Ending ToolFault) (told : ToolFault) → IsWhyNotRead words ending → TellsUnreadFolder told → ending ≡ ended.Failed told → ⊥
not_read_unread words ended.NoText told why says is = why
not_read_unread words (ended.CommandLine error) told why says is = cc
not_read_unread words (ended.Failed fault) told why says is =
    let same : fault ≡ told = cc in
    neither words fault why (subst TellsUnreadFolder (sym same) says)
