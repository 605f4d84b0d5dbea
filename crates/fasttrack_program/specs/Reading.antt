-- What a call reads, and what the reading of bytes answers
use Rattle.std.specs.Prelude.{◌≡◌, ◌≢◌, ℕ, false, List, Option, Some, None, IfSome, IsTrue, Result, Ok, Err, ◌⊎◌}
use Rattle.std.specs.List.{AllZip}
use Rattle.host_io.specs.Faults.{Rose}
use Rattle.host_io.specs.declared.files.Files.{Ghosts as FilesRow}
use Rattle.host_io.specs.declared.source.Source.{Ghosts as SourceRow}
use Rattle.elf32_loader.specs.LoadedImage.{image_of_loaded}
use Rattle.elf32_loader.specs.declared.loaded.Loaded.{Loaded}
use Rattle.guest_model.specs.Image.{Image}
use Rattle.job_listing.specs.Lists.{names_in}
use Rattle.program_words.specs.CommandLine.{Request}
use Rattle.program_words.specs.declared.request.Task.{Task}
use Rattle.program_words.specs.declared.request.Task.TheVariants.{Batch}
use Rattle.fasttrack_program.specs.Plan.{Found, image_in, input_in, list_in, reads_file, reads_input, reads_more}
use Rattle.fasttrack_program.specs.declared.answer.Answer.{Answer}
use Rattle.fasttrack_program.specs.declared.answer.Answer.TheVariants.{Usage, ReadFault, ImageTooLong, BadImage, BadList, NoMemory}

-- ---- what is known of bytes before they are read

-- where bytes are known, these are they
abbrev pub Agrees : Option (List ℕ) → List ℕ → Type 0
Agrees known bytes = IfSome known (λ all. bytes ≡ all)

-- what is known of the file that IMAGE names, of the input, of the file of `--with`, and of each file by its name
pub record Known : Type 0 where
  pub file : Option (List ℕ)
  pub input : Option (List ℕ)
  pub beside : Option (List ℕ)
  pub named : List ℕ → Option (List ℕ)

-- the bytes are those of the files that a list names, in its order
abbrev pub AreNamed : (List ℕ → Option (List ℕ)) → (list : List ℕ) → List (List ℕ) → Type 0
AreNamed named list images = (names : List (List ℕ)) → names_in list ≡ Some names → AllZip (λ name bytes. Agrees (named name) bytes) names images

pub record AgreesWith (known : Known) (found : Found) : Type 0 where
  pub file : Agrees known.file found.file
  pub input : Agrees known.input found.input
  pub beside : Agrees known.beside found.beside
  pub images : AreNamed known.named found.file found.images

abbrev pub known_file : {F : Type 0} → FilesRow F → Option Request → F → Option (List ℕ)
known_file f None files = None
known_file f (Some r) files = f.contents files r.image

-- what is known of the file of `--with`
abbrev pub known_named : {F : Type 0} → FilesRow F → Option (List ℕ) → F → Option (List ℕ)
known_named f None files = None
known_named f (Some name) files = f.contents files name

abbrev pub known_beside : {F : Type 0} → FilesRow F → Option Request → F → Option (List ℕ)
known_beside f None files = None
known_beside f (Some r) files = known_named f r.with files

abbrev pub known_of : {F I : Type 0} → FilesRow F → SourceRow I → Option Request → F → I → Known
known_of f i request files input =
    record { file = known_file f request files; input = i.remaining input; beside = known_beside f request files; named = f.contents files }

-- ---- what is made of bytes that are read

-- a read failed, or there was no memory for the bytes
abbrev pub IsUnread : Answer → Type 0
IsUnread answer = (answer ≡ ReadFault) ⊎ (answer ≡ NoMemory)

-- What `make` makes of the bytes that are there: a value, or the answer that refuses them. Else they could not be read.
abbrev pub Reads : {A : Type 0} → (List ℕ → Result A Answer) → Option (List ℕ) → Result A Answer → Type 0
Reads make known (Ok x) = (bytes : List ℕ) × Agrees known bytes × (make bytes ≡ Ok x)
Reads make known (Err answer) = IsUnread answer ⊎ ((bytes : List ℕ) × Agrees known bytes × (make bytes ≡ Err answer))

-- an image that is loaded, as the guest's image
abbrev pub loaded_image : Result Loaded Answer → Result Image Answer
loaded_image (Ok l) = Ok (image_of_loaded l)
loaded_image (Err answer) = Err answer

-- a read that failed is counted, and nothing else is
pub record CountsReadFault {T : Type 0} (old new : ℕ) (r : Result T Answer) : Type 0 where
  pub risen : r ≡ Err ReadFault → Rose old new
  pub calm : r ≢ Err ReadFault → new ≡ old

-- ---- what a call reads, and in which order

-- the answers that come before the input's place in the order, but for a failed read and for want of memory
abbrev pub IsRefusedEarly : Answer → Type 0
IsRefusedEarly Usage = Unit {0}
IsRefusedEarly ImageTooLong = Unit {0}
IsRefusedEarly (BadImage f) = Unit {0}
IsRefusedEarly BadList = Unit {0}
IsRefusedEarly _ = ⊥

-- the other answers, but for a failed read
abbrev pub IsLate : Answer → Type 0
IsLate answer = (answer ≢ ReadFault) × (IsRefusedEarly answer → ⊥)

-- the file that IMAGE names is not refused: a list is one, and each other file holds an image without a fault
abbrev pub Holds : Task → List ℕ → Type 0
Holds Batch file = (names : List (List ℕ)) × (list_in file ≡ Ok names)
Holds task file = (i : Image) × (image_in file ≡ Ok i)

abbrev pub IsAccepted : Option Request → List ℕ → Type 0
IsAccepted None file = ⊥
IsAccepted (Some r) file = Holds r.task file

-- Below, `f` and `i` are the rows of the bounds of files and input: in a clause `F.Files` and `I.Source`.
module _ {F I : Type 0} (f : FilesRow F) (i : SourceRow I) (request : Option Request) (files files' : F) (input input' : I) where
  -- a file could not be read, and the input is as it was; which file it was is not told
  pub record FileFails : Type 0 where
    pub wanted : IsTrue (reads_file request)
    pub risen : Rose (f.faults files) (f.faults files')
    pub unread : input' ≡ input

  -- the input could not be read, behind a file that is not refused
  pub record InputFails : Type 0 where
    pub wanted : IsTrue (reads_input request)
    pub risen : Rose (i.faults input) (i.faults input')
    pub calm : f.faults files' ≡ f.faults files
    pub file : List ℕ
    pub agrees : Agrees (known_file f request files) file
    pub accepted : IsAccepted request file

  -- The file of `--with`, or one that a list names, could not be read, behind a file that is not refused, and an input within
  -- its limit where it is wanted.
  pub record MoreFails : Type 0 where
    pub wanted : IsTrue (reads_more request)
    pub risen : Rose (f.faults files) (f.faults files')
    pub calm : i.faults input' ≡ i.faults input
    pub file : List ℕ
    pub agrees : Agrees (known_file f request files) file
    pub accepted : IsAccepted request file
    pub given : List ℕ
    pub input_agrees : Agrees (i.remaining input) given
    pub taken : List ℕ
    pub takes : input_in (reads_input request) given ≡ Ok taken

  -- A read that fails is counted and ends the call. Files and input are left alone where the words ask for none, and the
  -- input where the file is refused.
  pub record ReadsInOrder (answer : Answer) : Type 0 where
    pub fault : answer ≡ ReadFault → FileFails ⊎ InputFails ⊎ MoreFails
    pub counted : answer ≢ ReadFault → (f.faults files' ≡ f.faults files) × (i.faults input' ≡ i.faults input)
    pub no_file : reads_file request ≡ false → files' ≡ files
    pub no_input : reads_input request ≡ false → input' ≡ input
    pub early : IsRefusedEarly answer → input' ≡ input
