-- The answers that a file of an index can get.
use Rattle.std.specs.Prelude.{◌≡◌, ℕ, List, [], ◌∷◌, ◌++◌, ◌⊎◌, Some, Result, Ok, Err}
use Rattle.ndx_index.specs.declared.pair.Pair.{Pair}
use Rattle.ndx_index.specs.declared.fault.BadIndex.{BadIndex}
use Rattle.ndx_index.specs.declared.fault.NdxFault.{NdxFault}
use Rattle.ndx_index.specs.declared.fault.NdxFault.TheVariants.{NoMemory}
use Rattle.ndx_index.specs.declared.ndx_file.NdxFile.{NdxFile}
use Rattle.ndx_index.specs.declared.read.page.PageLayout.{PageLayout}
use Rattle.ndx_index.specs.NdxTree.{BadPage, Visits}
use Rattle.ndx_index.specs.Pages.{Node, leaf, inner}

-- what was read is this text, this length and these pairs, or memory is refused
abbrev pub IsOnly : List ℕ → ℕ → List Pair → Result NdxFile NdxFault → Type 0
IsOnly text key_len pairs (Ok file) = (file.expr ≡ text) × (file.key_len ≡ key_len) × (file.pairs.pairs ≡ pairs)
IsOnly text key_len pairs (Err e) = e ≡ NoMemory

-- an answer, where a fault tells of no page
abbrev pub without_page : Result NdxFile BadIndex → Result NdxFile NdxFault
without_page (Ok file) = Ok file
without_page (Err bad) = Err bad.why

-- a page that holds this gives its pairs, one list and then
abbrev pub Takes : Result Node NdxFault → List Pair → List Pair → Type 0
Takes (Ok (leaf own)) pairs pairs' = pairs' ≡ pairs ++ own
Takes (Ok (inner children)) pairs pairs' = pairs' ≡ pairs
Takes (Err e) pairs pairs' = ⊥

-- memory is refused, or this page breaks this rule
abbrev pub Refuses : ℕ → Result Node NdxFault → BadIndex → Type 0
Refuses page node bad = (bad.why ≡ NoMemory) ⊎ ((bad.page ≡ Some page) × (node ≡ Err bad.why))

-- the walk over the tree under a page breaks a rule first at this page
abbrev pub StopsAt : PageLayout → List ℕ → ℕ → BadPage → Type 0
StopsAt s bytes root bad = (pages : List ℕ) × (pairs : List Pair) × Visits s bytes [] (root ∷ []) pages pairs (Some bad)

-- memory is refused, or this is where the walk over the tree under a page breaks a rule first
abbrev pub IsWalkFault : PageLayout → List ℕ → ℕ → BadIndex → Type 0
IsWalkFault s bytes root bad =
    (bad.why ≡ NoMemory) ⊎ ((page : ℕ) × (bad.page ≡ Some page) × StopsAt s bytes root (record { page = page; why = bad.why }))
