-- What the reader takes in from the frames of an image.
pub mod Reading
