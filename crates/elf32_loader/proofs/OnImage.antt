-- The image of a file, from what the checks found
use Rattle.std.proofs.Common.{◌≡◌, ℕ, List, length, Option, Some, None, Ok, sym, ap, ◌∙◌}
use Rattle.std.specs.Prelude.{IsSome}
use Rattle.guest_model.specs.ByteMap.{ByteMap}
use Rattle.guest_model.specs.Difference.{or_else, first_some}
use Rattle.guest_model.specs.Image.{Image, image, image_of, image_unless, initial_memory, heap_of}
use Rattle.guest_model.specs.ImageFault.{Fault, header_fault, segment_fault, segment_faults, first_fault}
use Rattle.guest_model.specs.Segment.{Segment, segments, e_entry}
use Rattle.guest_model.specs.declared.state.Heap.{Heap}
use Rattle.elf32_loader.specs.LoadedImage.{IsRefused}

abbrev pub image_with : ℕ → ByteMap → Heap → Image
image_with a m h = record { entry = a; memory = m; heap = h }

first_fault-header : (bs : List ℕ) (f : Fault) → header_fault bs ≡ Some f → first_fault bs ≡ Some f
unfolding first_fault
first_fault-header bs f h = ap (λ o. or_else o (or_else (segment_fault bs) None)) h

first_fault-segments : (bs : List ℕ) (o : Option Fault) → header_fault bs ≡ None → segment_fault bs ≡ o → first_fault bs ≡ or_else o None
unfolding first_fault
first_fault-segments bs o h s = ap (λ p. or_else p (or_else (segment_fault bs) None)) h ∙ ap (λ p. or_else p None) s

image-at : (bs : List ℕ) (o : Option Fault) → first_fault bs ≡ o → image bs ≡ image_unless o bs
unfolding image
image-at bs o h = ap (λ p. image_unless p bs) h

pub refused-header : (bs : List ℕ) (o : Option Fault) → IsSome o → header_fault bs ≡ o → IsRefused bs o
refused-header bs None s h = absurd (cc)
refused-header bs (Some f) s h = image-at bs (Some f) (first_fault-header bs f h)

pub refused-segments : (bs : List ℕ) (o : Option Fault) → IsSome o → header_fault bs ≡ None → segment_fault bs ≡ o → IsRefused bs o
refused-segments bs None s h e = absurd (cc)
refused-segments bs (Some f) s h e = image-at bs (Some f) (first_fault-segments bs (Some f) h e)

pub unfaulted : (bs : List ℕ) → header_fault bs ≡ None → segment_fault bs ≡ None → first_fault bs ≡ None
unfaulted bs h e = first_fault-segments bs None h e

pub image-unfaulted : (bs : List ℕ) → first_fault bs ≡ None → image bs ≡ Ok (image_of bs (segments bs))
image-unfaulted bs h = image-at bs None h

-- ---- with the program headers and the entry as they were read

pub segment_fault-read : (bs : List ℕ) (hs : List Segment) (a : ℕ) → hs ≡ segments bs → a ≡ e_entry bs → segment_fault bs ≡ first_some (segment_faults (length bs) a hs)
segment_fault-read bs hs a e f =
    ap (λ xs. first_some (segment_faults (length bs) (e_entry bs) xs)) (sym e)
    ∙ ap (λ x. first_some (segment_faults (length bs) x hs)) (sym f)

pub image_of-read : (bs : List ℕ) (hs : List Segment) (a : ℕ) → hs ≡ segments bs → a ≡ e_entry bs → image_of bs (segments bs) ≡ image_with a (initial_memory bs hs (heap_of hs)) (heap_of hs)
image_of-read bs hs a e f = ap (image_of bs) (sym e) ∙ ap (λ x. image_with x (initial_memory bs hs (heap_of hs)) (heap_of hs)) (sym f)
